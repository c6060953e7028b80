-- Reading retains the word of a linkage, whose number is at most 3.
use Rattle.std.specs.Prelude.{◌≡◌, ℕ, List, [], ◌∷◌, length, map, min, refl}
use Rattle.std.proofs.lemmas.List.{length-map}
use Rattle.btf_plain.specs.declared.linkage.VarLinkage.{VarLinkage}
use Rattle.btf_plain.specs.declared.linkage.VarLinkage.TheVariants as linkages
use Rattle.btf_plain.specs.Linkage.{var_linkage_number}

pub linkage_stays : (l : VarLinkage) → map (min 3) (var_linkage_number l ∷ []) ≡ var_linkage_number l ∷ []
linkage_stays linkages.Static = refl
linkage_stays linkages.Global = refl
linkage_stays linkages.Extern = refl
linkage_stays linkages.Unknown = refl

pub length_stays : (ws : List ℕ) → length (map (min 3) ws) ≡ length ws
length_stays ws = length-map ws (min 3)
