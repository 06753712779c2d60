-- Bytes that are written as they are, in one piece.
use Rattle.std.proofs.Common.{◌≡◌, ℕ, Bool, true, false, List, [], ◌∷◌, ◌++◌, length, take, drop, refl, sym, ap, ◌∙◌}
use Rattle.std.specs.Prelude.{◌==◌, not, if◌then◌else◌}
use Rattle.std.specs.List.{flat_map, list_all}
use Rattle.std.proofs.lemmas.List.{take-append-drop}
use Rattle.std.proofs.Math.Seq.{take-length}
use Rattle.wt_datamw.proofs.Runs.{both, plain_run}
use Rattle.wt_schema.specs.Escapes.{escape, escape_double, escape_single, is_control}
use Rattle.wt_html_out.specs.Runs.{is_plain}
use Rattle.wt_html_out.specs.Escaping.{escape_in, quote_of}
use Rattle.wt_html_out.specs.declared.bytes.Escaping.{Escaping}
use Rattle.wt_html_out.specs.declared.bytes.Escaping.TheVariants as for

false_of : (t : Bool) → not t ≡ true → t ≡ false
false_of true e = cc
false_of false e = refl

if_not : {A : Type 0} (t : Bool) (x y : A) → t ≡ false → (if t then x else y) ≡ y
if_not true x y e = cc
if_not false x y e = refl

-- a plain byte is written as it is
plain_text : (quote b : ℕ) → is_plain quote b ≡ true → escape b ≡ b ∷ []
unfolding escape
plain_text quote b e =
    let one = both (not (b == 38)) _ e in
    let two = both (not (b == 60)) _ one.1 in
    let three = both (not (b == 62)) _ two.1 in
    let four = both (not (is_control b)) _ three.1 in
    if_not (b == 38) _ _ (false_of (b == 38) one.0) ∙ if_not (b == 60) _ _ (false_of (b == 60) two.0) ∙ if_not (b == 62) _ _ (false_of (b == 62) three.0)
    ∙ if_not (is_control b) _ _ (false_of (is_control b) four.0)

plain_quote : (quote b : ℕ) → is_plain quote b ≡ true → (b == quote) ≡ false
plain_quote quote b e =
    let one = both (not (b == 38)) _ e in
    let two = both (not (b == 60)) _ one.1 in
    let three = both (not (b == 62)) _ two.1 in
    let four = both (not (is_control b)) (not (b == quote)) three.1 in
    false_of (b == quote) four.1

plain_double : (b : ℕ) → is_plain 34 b ≡ true → escape_double b ≡ b ∷ []
unfolding escape_double
plain_double b e = if_not (b == 34) _ _ (plain_quote 34 b e) ∙ plain_text 34 b e

plain_single : (b : ℕ) → is_plain 39 b ≡ true → escape_single b ≡ b ∷ []
unfolding escape_single
plain_single b e = if_not (b == 39) _ _ (plain_quote 39 b e) ∙ plain_text 39 b e

run_text : (bs : List ℕ) → list_all (is_plain 38) bs ≡ true → flat_map escape bs ≡ bs
run_text bs e = plain_run escape (is_plain 38) (plain_text 38) bs e

run_double : (bs : List ℕ) → list_all (is_plain 34) bs ≡ true → flat_map escape_double bs ≡ bs
run_double bs e = plain_run escape_double (is_plain 34) plain_double bs e

run_single : (bs : List ℕ) → list_all (is_plain 39) bs ≡ true → flat_map escape_single bs ≡ bs
run_single bs e = plain_run escape_single (is_plain 39) plain_single bs e

run_of : (e : Escaping) (bs : List ℕ) → list_all (is_plain (quote_of e)) bs ≡ true → flat_map (escape_in e) bs ≡ bs
run_of for.Text = run_text
run_of for.DoubleQuoted = run_double
run_of for.SingleQuoted = run_single

pub run_in : (e : Escaping) (quote : ℕ) (bs : List ℕ) → quote ≡ quote_of e → list_all (is_plain quote) bs ≡ true → flat_map (escape_in e) bs ≡ bs
run_in e quote bs is plain = run_of e bs (ap (λ q. list_all (is_plain q) bs) (sym is) ∙ plain)

-- what is plain all through is as it is when it is escaped
pub kept_behind : (out : List ℕ) (at : ℕ) (text : List ℕ) (n : ℕ) → text ≡ drop at out → n ≡ length text → list_all (is_plain 39) (take n text) ≡ true
    → out ≡ take at out ++ flat_map escape_single (drop at out)
kept_behind out at text n is whole plain =
    let all : take n text ≡ text = ap (λ k. take k text) whole ∙ take-length text in
    let same : flat_map escape_single text ≡ text = run_single text (ap (list_all (is_plain 39)) (sym all) ∙ plain) in
    sym (take-append-drop at out) ∙ ap (λ xs. take at out ++ xs) (sym (ap (flat_map escape_single) (sym is) ∙ same ∙ is))
