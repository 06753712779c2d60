-- The bytes at the edges of a block.
use Rattle.std.proofs.Common.{arith, ◌≡◌, ℕ, ◌-◌, Bool, true, false, Option, Some, List, [], ◌∷◌, ◌++◌, length, refl, sym, ap, ◌∙◌, subst, length-append}
use Rattle.std.specs.Prelude.{slice_get, ◌==◌, ◌||◌}
use Rattle.std.proofs.lemmas.Bool.Decides.{Decides-eqb}
use Rattle.wt_span.specs.Bytes.{is_break}
use Rattle.wt_inside_laws.specs.Edges.{MeetsPlainly, EndsBefore, line_end, tag_end, closed, rule_end, BeginsBehind, next_line, call, BeginsNone, space, tab, line_break, brace}
use Rattle.wt_inside_laws.specs.Joints.{Joints, last_byte, may_begin, may_begin_behind, may_end_before}

either : (x y : Bool) (P : Type 0) → (x ≡ true → P) → (y ≡ true → P) → (x || y) ≡ true → P
either true y P f g e = f refl
either false true P f g e = g refl
either false false P f g e = cc

last_at : (front : List ℕ) (b : ℕ) → slice_get (front ++ b ∷ []) (length front) ≡ Some b
last_at [] b = refl
last_at (x ∷ front) b = last_at front b

last_is : (before front : List ℕ) (b : ℕ) → before ≡ front ++ b ∷ [] → last_byte before ≡ Some b
last_is before front b e =
    let l : length before - 1 ≡ length front = (let n = ap length e in let m = length-append front (b ∷ []) in omega (arith, n, m)) in
    ap (slice_get before) l ∙ ap (λ (bs : List ℕ). slice_get bs (length front)) e ∙ last_at front b

is : (P : ℕ → Type 0) (b n : ℕ) → P n → (b == n) ≡ true → P b
is P b n p e = subst P (sym ((Decides-eqb b n).0 e)) p

ends_before : (b : ℕ) → may_end_before (Some b) ≡ true → EndsBefore b
ends_before b e = either (is_break b) (b == 62 || (b == 125 || b == 45)) (EndsBefore b) (is EndsBefore b 10 line_end)
    (either (b == 62) (b == 125 || b == 45) (EndsBefore b) (is EndsBefore b 62 tag_end)
    (either (b == 125) (b == 45) (EndsBefore b) (is EndsBefore b 125 closed) (is EndsBefore b 45 rule_end))) e

begins_behind : (b : ℕ) (rest : List ℕ) → may_begin_behind (b ∷ rest) ≡ true → BeginsBehind b
begins_behind b rest e = either (is_break b) (b == 123) (BeginsBehind b) (is BeginsBehind b 10 next_line) (is BeginsBehind b 123 call) e

begins_none : (last : Option ℕ) (b : ℕ) (rest : List ℕ) → may_begin last (b ∷ rest) ≡ true → BeginsNone b → ⊥
begins_none last b rest e space = cc
begins_none last b rest e tab = cc
begins_none last b rest e line_break = cc
begins_none last b rest e brace = cc

pub meets : (before old new behind : List ℕ) → Joints before old new behind → MeetsPlainly before new behind
meets before old new behind j = record {
  left = λ front b e. ends_before b (sym (ap may_end_before (last_is before front b e)) ∙ j.left);
  right = λ b rest e. begins_behind b rest (sym (ap may_begin_behind e) ∙ j.right);
  some = λ e. let f : false ≡ true = sym (ap (may_begin (last_byte before)) e) ∙ j.first in cc;
  first = λ b rest e n. begins_none (last_byte before) b rest (sym (ap (may_begin (last_byte before)) e) ∙ j.first) n;
  no_rule = λ front rest e d. let f : false ≡ true =
      sym (ap (may_begin (last_byte before)) d ∙ ap (λ (o : Option ℕ). may_begin o (45 ∷ rest)) (last_is before front 45 e)) ∙ j.first in cc;
}
