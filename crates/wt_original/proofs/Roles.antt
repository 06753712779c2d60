-- A URL by whether it has an opening delimiter.
use Rattle.std.proofs.Common.{arith, ◌≡◌, ◌≢◌, ℕ, List, [], ◌∷◌, length, refl}
use Rattle.std.specs.Prelude.{nat_eq}
use Rattle.std.specs.List.{ends_with}
use Rattle.wt_guards.specs.declared.role.Role.TheVariants as role
use Rattle.wt_original.specs.Kept.{url}

pub url_bare : (bs text : List ℕ) → length bs ≡ 0 → url bs text ≡ role.Bare (ends_with nat_eq text (61 ∷ []))
url_bare [] text e = refl
url_bare (b ∷ bs) text e = absurd (search arith)

pub url_external : (bs text : List ℕ) → length bs ≢ 0 → url bs text ≡ role.External
url_external [] text e = absurd (e refl)
url_external (b ∷ bs) text e = refl
