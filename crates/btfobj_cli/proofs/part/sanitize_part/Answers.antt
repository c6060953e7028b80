use Rattle.btfobj_cli.proofs.part.sanitize_part.Goals as goal

pub returns : goal.returns
returns c = (c.in_ok-part.part.items, c.in_ok-part.ensures, c.in_ok-with_table.ensures)
