-- Later lines of a block.
use Rattle.std.proofs.Common.{◌≡◌, ◌≤◌, inr, ℕ, true, List, [], ◌∷◌, ◌++◌, length, drop, sym, ap, ◌∙◌, arith, append_assoc}
use Rattle.std.specs.Prelude.{codes, nat_lt}
use Rattle.std.proofs.lemmas.Bool.Decides.{nat_tests}
use Rattle.wt_span.specs.Bytes.{begins}
use Rattle.wt_span.specs.declared.form.Piece.{Piece}
use Rattle.wt_span.specs.Items.{Item, char, whole, items}
use Rattle.wt_tiles.specs.Cutting.{IsEdgeIn}
use Rattle.wt_inline.specs.declared.loose.Loose.TheVariants.{Text}
use Rattle.wt_inline.specs.ItemTree.{ItemTree}
use Rattle.wt_inline.specs.Parts.{node, parts}
use Rattle.wt_inline.specs.Grown.{Grown, Grows, made}
use Rattle.wt_context.specs.Line.{line_parts}
use Rattle.wt_page.specs.Rows.{Row, signs}
use Rattle.wt_page.specs.Texts.{skipped, later_pre}
use Rattle.wt_rows.specs.Views.{slice}
use Rattle.wt_page.proofs.LowSigns.{form_low}
use Rattle.wt_rows.proofs.Straying.{slices_join}

-- ---- slices that follow one another

pub whole_line : (ps line : List Piece) (a b c : ℕ) → a ≤ b → b ≤ c → line ≡ slice a c ps → items line ≡ items (slice a b ps) ++ items (slice b c ps)
whole_line ps line a b c h k e = ap items e ∙ slices_join ps a b c h k

-- ---- a space at the front

pub space_within : (xs : List Item) → begins (codes " ") (signs xs) ≡ true → 1 ≤ length xs
space_within [] e = cc
space_within (x ∷ xs) e = omega arith

pub space_edge : (xs : List Item) → begins (codes " ") (signs xs) ≡ true → IsEdgeIn xs 1
space_edge [] e = cc
space_edge (char o b ∷ xs) e = let low : nat_lt b 128 ≡ true = grind (arith, nat_tests) in inr (inr low)
space_edge (whole f o bs ∷ xs) e = inr (inr (form_low f))

-- ---- what a later line of preformatted text adds

pub grows_pre : (r : Row) (lead rest : List Item) (t : ItemTree) (g h i j : Grown) → lead ≡ r.lead → t ≡ skipped r → rest ≡ drop 1 r.items
    → Grows g (parts Text lead) h → Grows h (node t ∷ []) i → Grows i (line_parts rest) j → Grows g (later_pre r) j
grows_pre r lead rest t g h i j el et er p q s ps =
    let a = parts Text lead in
    let c = line_parts rest in
    s ps ∙ q (c ++ ps) ∙ p (node t ∷ (c ++ ps))
    ∙ ap (made g) (sym (append_assoc a (node t ∷ c) ps)
    ∙ ap (λ xs. (parts Text xs ++ (node t ∷ c)) ++ ps) el
    ∙ ap (λ u. (parts Text r.lead ++ (node u ∷ c)) ++ ps) et
    ∙ ap (λ xs. (parts Text r.lead ++ (node (skipped r) ∷ line_parts xs)) ++ ps) er)
