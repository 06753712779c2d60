-- Worked cases of trimming.
use Rattle.std.proofs.Common.{◌≡◌, refl, [], ◌∷◌}
use Rattle.std.specs.Prelude.{codes}
use Rattle.wt_call_data.specs.CallData.{trimmed}

-- white space within a text stays
inside_stays : trimmed (32 ∷ 10 ∷ 97 ∷ 32 ∷ 98 ∷ 9 ∷ []) ≡ codes "a b"
unfolding trimmed
inside_stays = refl

all_white : trimmed (32 ∷ 9 ∷ 10 ∷ []) ≡ []
unfolding trimmed
all_white = refl

-- a carriage return is an ordinary character
carriage_return_stays : trimmed (97 ∷ 13 ∷ 10 ∷ []) ≡ 97 ∷ 13 ∷ []
unfolding trimmed
carriage_return_stays = refl
