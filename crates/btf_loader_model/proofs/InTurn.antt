-- The sections of records of two lists.
use Rattle.std.proofs.Common.{refl, ap, [], ◌∷◌}
use Rattle.btf_loader_model.specs.Laws.{SectionsInTurn}
use Rattle.btf_loader_model.specs.Loader.{left_at, section_at, relocated_at, then_section}

pub in_turn : SectionsInTurn
in_turn g is_shared o left file [] second = refl
in_turn g is_shared o left file (s ∷ first) second =
    let r = relocated_at g is_shared left (section_at g o s.0) file s.1 in
    ap (then_section (s.0, r.0)) (in_turn g is_shared o (left_at g is_shared left (section_at g o s.0) s.1) r.1 first second)
