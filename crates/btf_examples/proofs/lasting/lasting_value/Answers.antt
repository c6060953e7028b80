use Rattle.btf_examples.proofs.lasting.lasting_value.Goals as goal

pub returns : goal.returns
returns c = c.in_ok-fixup_and_sanitize.ensures.kept.values c.args.id c.args.name.now c.in_ok-found.found c.in_ok-found.ensures.value
