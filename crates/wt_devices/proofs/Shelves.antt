-- Looking up among entries of which no two have the same name.
use Rattle.std.proofs.Common.{◌≡◌, ℕ, zero, suc, Bool, true, false, cond, List, [], ◌∷◌, refl, ◌∙◌, arith}
use Rattle.std.specs.Prelude.{◌≢◌, All, AllPairs, Option, Some, None, option_map, find}
use Rattle.std.specs.Bool.{Decides}
use Rattle.std.specs.Str.{bytes_eq}
use Rattle.std.proofs.lemmas.Slice.Eq.{bytes_eq-Decides}
use Rattle.wt_devices.specs.Shelf.{look_up, ArePagesOf}

abbrev Entry : Type 0
Entry = List ℕ × List ℕ

here_by : (e : Entry) (rest : Option Entry) (v : Bool) → Decides v (e.0 ≡ e.0) → option_map (λ entry. entry.1) (cond v (Some e) rest) ≡ Some e.1
here_by e rest true d = refl
here_by e rest false d = let no_way : false ≡ true = d.1 refl in absurd cc

here : (e : Entry) (es : List Entry) → look_up (e ∷ es) e.0 ≡ Some e.1
here e es = here_by e (find (λ entry. bytes_eq entry.0 e.0) es) (bytes_eq e.0 e.0) (bytes_eq-Decides e.0 e.0)

later_by : (e : Entry) (name : List ℕ) (rest : Option Entry) (v : Bool) → Decides v (e.0 ≡ name) → e.0 ≢ name
    → option_map (λ entry. entry.1) (cond v (Some e) rest) ≡ option_map (λ entry. entry.1) rest
later_by e name rest true d other = absurd (other (d.0 refl))
later_by e name rest false d other = refl

later : (e : Entry) (es : List Entry) (name : List ℕ) → e.0 ≢ name → look_up (e ∷ es) name ≡ look_up es name
later e es name other = later_by e name (find (λ entry. bytes_eq entry.0 name) es) (bytes_eq e.0 name) (bytes_eq-Decides e.0 name) other

found_all : (es : List Entry) → AllPairs (λ (a : Entry) (b : Entry). a.0 ≢ b.0) es → All (λ (e : Entry). look_up es e.0 ≡ Some e.1) es
found_all [] apart k d lt = absurd (omega arith)
found_all (e ∷ es) apart zero d lt = here e es
found_all (e ∷ es) apart (suc k) d lt =
    later e es _ (apart 0 (suc k) d (omega arith) lt)
    ∙ found_all es (λ i j d less within. apart (suc i) (suc j) d (omega arith) (omega arith)) k d (omega arith)

absent_all : (es : List Entry) (name : List ℕ) → All (λ (e : Entry). e.0 ≢ name) es → look_up es name ≡ None
absent_all [] name others = refl
absent_all (e ∷ es) name others = later e es name (others 0 e (omega arith)) ∙ absent_all es name (λ k d lt. others (suc k) d (omega arith))

pub pages_of : (es : List Entry) → AllPairs (λ (a : Entry) (b : Entry). a.0 ≢ b.0) es → ArePagesOf es (look_up es)
pages_of es apart = record { found = found_all es apart; absent = absent_all es }
