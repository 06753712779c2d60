-- Worked cases of a table, and of the names that it hasn't.
use Rattle.std.proofs.Common.{◌≡◌, ℕ, List, [], ◌∷◌, refl}
use Rattle.std.specs.Prelude.{Some, None, codes}
use Rattle.wt_replies.specs.declared.table.Page.{Page}
use Rattle.wt_replies.specs.Tables.{entry_of, or_else, pages_of, missing_names}

abbrev entry : List ℕ → List ℕ → ℕ → Page
entry name text state = record { name = record { ref_ptr = (0, 0); now = name }; text = record { ref_ptr = (0, 0); now = text }; state = state }

-- A is there twice, B is absent, C could not be fetched
abbrev table : List Page
table = entry (codes "A") (codes "a") 1 ∷ entry (codes "B") (codes "b") 0 ∷ entry (codes "A") (codes "c") 1 ∷ entry (codes "C") (codes "c") 2 ∷ []

first_counts : pages_of (entry_of table) (codes "A") ≡ Some (codes "a")
first_counts = refl

told_absent : pages_of (entry_of table) (codes "B") ≡ None
told_absent = refl

failed : pages_of (entry_of table) (codes "C") ≡ None
failed = refl

not_there : pages_of (entry_of table) (codes "D") ≡ None
not_there = refl

first_stays : or_else (entry_of table) (entry (codes "A") (codes "z") 1) (codes "A") ≡ Some (entry (codes "A") (codes "a") 1)
first_stays = refl

one_more : or_else (entry_of table) (entry (codes "D") (codes "d") 1) (codes "D") ≡ Some (entry (codes "D") (codes "d") 1)
one_more = refl

two_missing : missing_names (entry_of table) (codes "A" ∷ codes "DE" ∷ codes "B" ∷ codes "C" ∷ codes "F" ∷ []) ≡ 68 ∷ 69 ∷ 0 ∷ 70 ∷ 0 ∷ []
two_missing = refl
