-- Facts about options.
use Rattle.std.proofs.Common.{◌≡◌, true, Option, None, Some}
use Rattle.std.specs.Prelude.{MatchOption, is_some}
use Rattle.std.specs.Option.{SomeIff}

-- what follows from each of the two facts
pub match_more : {X : Type 0} (r : Option X) (P P' : Type 0) (Q Q' : X → Type 0) → (P → P') → ((x : X) → Q x → Q' x) → MatchOption r P Q → MatchOption r P' Q'
match_more None P P' Q Q' none some h = none h
match_more (Some x) P P' Q Q' none some h = some x h

-- the fact about the value, if there is a value
pub some_since_test : {X : Type 0} (r : Option X) (P : Type 0) (x : X) → SomeIff r P x → is_some r ≡ true → P
some_since_test None P x h is = cc
some_since_test (Some y) P x h is = h.0
