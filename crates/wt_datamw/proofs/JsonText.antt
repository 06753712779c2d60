-- Bytes that stand for themselves in a string of JSON.
use Rattle.std.proofs.Common.{◌≡◌, ℕ, true, List, [], ◌∷◌}
use Rattle.std.specs.Prelude.{◌==◌, ◌&&◌, not, nat_le}
use Rattle.std.specs.List.{list_all}
use Rattle.std.proofs.lemmas.Bool.{eqb-false, not-true, leb-true}
use Rattle.json.specs.Print.{escape_byte, escape}
use Rattle.json.proofs.Printed.Strings.{escape_byte_plain}
use Rattle.wt_datamw.specs.JsonText.{stands_for_itself}
use Rattle.wt_datamw.proofs.Runs.{both, plain_run}

plain_byte : (b : ℕ) → stands_for_itself b ≡ true → escape_byte b ≡ b ∷ []
plain_byte b e =
    let one = both (nat_le 32 b) (not (b == 34) && not (b == 92)) e in
    let two = both (not (b == 34)) (not (b == 92)) one.1 in
    escape_byte_plain b (eqb-false b 34 (not-true (b == 34) two.0)) (eqb-false b 92 (not-true (b == 92) two.1)) (leb-true 32 b one.0)

pub run_json : (bs : List ℕ) → list_all stands_for_itself bs ≡ true → escape bs ≡ bs
run_json bs e = plain_run escape_byte stands_for_itself plain_byte bs e
