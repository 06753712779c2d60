-- The text of `data-mw` is its pieces.
use Rattle.std.proofs.Common.{◌≡◌, ℕ, true, false, List, [], ◌∷◌, ◌++◌, Some, None, codes, decimal, refl, sym, ap, ◌∙◌, append_assoc}
use Rattle.std.specs.Prelude.{flat_map}
use Rattle.std.specs.Cmp.Lexicographic.{slice_cmp}
use Rattle.std.specs.List.Sorted.{IsStrictlySortedBy}
use Rattle.std.specs.Ordering.{nat_cmp}
use Rattle.json.specs.Print.{quoted}
use Rattle.serde_json.specs.Data.{object}
use Rattle.serde_json.specs.Written.{compact_text, items_text, members_text}
use Rattle.wt_tree.specs.declared.node.DataMw.{DataMw}
use Rattle.wt_tree.specs.declared.node.DataMw.TheVariants as mw
use Rattle.wt_tree.specs.declared.node.Part.{Part}
use Rattle.wt_tree.specs.declared.node.Part.TheVariants as part
use Rattle.wt_datamw.specs.Mw.{params_data, template_data, function_data, part_data, parts_items, mw_text}
use Rattle.wt_datamw.specs.MwPieces.{value_start, param_text, later_param, params_listed, ordered_params, number_start, params_start, href_start, target_start, target_text, template_text, function_start, function_target_text, function_text, argument_start, part_text, later_part, parts_listed, parts_start, body_start, name_start, mw_pieces}
use Rattle.wt_datamw.proofs.MwBack.{Param, names, sources, all_last}

-- ---- parameters in order

param_then : (n k t rest : List ℕ) → n ++ 58 ∷ ((123 ∷ (k ++ 58 ∷ (t ++ 125 ∷ []))) ++ rest)
    ≡ (n ++ ((58 ∷ 123 ∷ (k ++ 58 ∷ [])) ++ (t ++ 125 ∷ []))) ++ rest
param_then n k t rest = simp append_assoc

later_params : (ps : List Param) → members_text true (sources ps) ≡ flat_map later_param ps ++ codes "}"
unfolding sources value_start
later_params [] = refl
later_params (p ∷ ps) =
    ap (λ xs. 44 ∷ xs) (param_then (quoted p.0) (quoted (codes "wt")) (quoted p.1) (members_text true (sources ps)))
    ∙ ap (λ xs. later_param p ++ xs) (later_params ps) ∙ sym (append_assoc (later_param p) (flat_map later_param ps) (codes "}"))

all_params : (ps : List Param) → members_text false (sources ps) ≡ params_listed ps ++ codes "}"
unfolding sources value_start
all_params [] = refl
all_params (p ∷ ps) =
    param_then (quoted p.0) (quoted (codes "wt")) (quoted p.1) (members_text true (sources ps))
    ∙ ap (λ xs. param_text p ++ xs) (later_params ps) ∙ sym (append_assoc (param_text p) (flat_map later_param ps) (codes "}"))

pub params_ordered : (ps : List Param) → IsStrictlySortedBy (slice_cmp nat_cmp) (names ps) → ordered_params ps ≡ compact_text (params_data ps)
unfolding ordered_params params_data sources
params_ordered ps h = sym (ap (λ ms. compact_text (object ms)) (all_last [] ps h) ∙ ap (λ xs. 123 ∷ xs) (all_params ps))

-- ---- parts

template_shape : (a b c d e f i p h t : List ℕ)
    → 123 ∷ (a ++ 58 ∷ ((123 ∷ (b ++ 58 ∷ (i ++ 44 ∷ (c ++ 58 ∷ (p ++ 44 ∷ (d ++ 58 ∷ ((123 ∷ (e ++ 58 ∷ (h ++ 44 ∷ (f ++ 58 ∷ (t ++ 125 ∷ []))))) ++ 125 ∷ [])))))))
    ++ 125 ∷ []))
    ≡ (123 ∷ ((a ++ 58 ∷ []) ++ 123 ∷ (b ++ 58 ∷ []))) ++ (i ++ ((44 ∷ (c ++ 58 ∷ [])) ++ (p ++ ((44 ∷ ((d ++ 58 ∷ []) ++ 123 ∷ (e ++ 58 ∷ [])))
    ++ (h ++ ((44 ∷ (f ++ 58 ∷ [])) ++ (t ++ 125 ∷ 125 ∷ 125 ∷ [])))))))
template_shape a b c d e f i p h t = simp append_assoc

argument_shape : (a b t : List ℕ) → 123 ∷ (a ++ 58 ∷ ((123 ∷ (b ++ 58 ∷ (t ++ 125 ∷ []))) ++ 125 ∷ []))
    ≡ (123 ∷ ((a ++ 58 ∷ []) ++ 123 ∷ (b ++ 58 ∷ []))) ++ (t ++ 125 ∷ 125 ∷ [])
argument_shape a b t = simp append_assoc

part_is : (p : Part) → compact_text (part_data p) ≡ part_text p
unfolding template_data template_text target_text function_data function_text function_target_text number_start params_start href_start
    function_start target_start argument_start
part_is (part.Template target href ps i) =
    template_shape (quoted (codes "template")) (quoted (codes "i")) (quoted (codes "params")) (quoted (codes "target")) (quoted (codes "href"))
    (quoted (codes "wt")) (decimal i) (compact_text (params_data ps)) (quoted href) (quoted target)
part_is (part.Function name target ps i) =
    template_shape (quoted (codes "template")) (quoted (codes "i")) (quoted (codes "params")) (quoted (codes "target")) (quoted (codes "function"))
    (quoted (codes "wt")) (decimal i) (compact_text (params_data ps)) (quoted name) (quoted target)
part_is (part.Param source) = argument_shape (quoted (codes "param")) (quoted (codes "wt")) (quoted source)
part_is (part.Literal text) = refl

later_parts : (ps : List Part) → items_text true (parts_items ps) ≡ flat_map later_part ps ++ codes "]"
later_parts [] = refl
later_parts (p ∷ ps) =
    ap (λ xs. 44 ∷ (xs ++ items_text true (parts_items ps))) (part_is p) ∙ ap (λ xs. later_part p ++ xs) (later_parts ps)
    ∙ sym (append_assoc (later_part p) (flat_map later_part ps) (codes "]"))

all_parts : (ps : List Part) → items_text false (parts_items ps) ≡ parts_listed ps ++ codes "]"
all_parts [] = refl
all_parts (p ∷ ps) =
    ap (λ xs. xs ++ items_text true (parts_items ps)) (part_is p) ∙ ap (λ xs. part_text p ++ xs) (later_parts ps)
    ∙ sym (append_assoc (part_text p) (flat_map later_part ps) (codes "]"))

-- ---- the whole

parts_shape : (a xs : List ℕ) → 123 ∷ (a ++ 58 ∷ ((91 ∷ (xs ++ 93 ∷ [])) ++ 125 ∷ []))
    ≡ (123 ∷ ((a ++ 58 ∷ []) ++ 91 ∷ [])) ++ (xs ++ 93 ∷ 125 ∷ [])
parts_shape a xs = simp append_assoc

name_shape : (a t : List ℕ) → 123 ∷ (a ++ 58 ∷ (t ++ 125 ∷ [])) ≡ 123 ∷ ((a ++ 58 ∷ []) ++ (t ++ 125 ∷ []))
name_shape a t = simp append_assoc

body_shape : (a b c t u : List ℕ) → 123 ∷ (a ++ 58 ∷ ((123 ∷ (b ++ 58 ∷ (t ++ 125 ∷ []))) ++ 44 ∷ (c ++ 58 ∷ (u ++ 125 ∷ []))))
    ≡ 123 ∷ ((((a ++ 58 ∷ []) ++ 123 ∷ (b ++ 58 ∷ [])) ++ (t ++ 125 ∷ 44 ∷ [])) ++ ((c ++ 58 ∷ []) ++ (u ++ 125 ∷ [])))
body_shape a b c t u = simp append_assoc

pub mw_text_pieces : (d : DataMw) → mw_text d ≡ mw_pieces d
unfolding mw_text parts_start body_start name_start
mw_text_pieces (mw.Parts ps) =
    ap (λ xs. 123 ∷ (quoted (codes "parts") ++ 58 ∷ ((91 ∷ xs) ++ 125 ∷ []))) (all_parts ps) ∙ parts_shape (quoted (codes "parts")) (parts_listed ps)
mw_text_pieces (mw.Extension name None) = name_shape (quoted (codes "name")) (quoted name)
mw_text_pieces (mw.Extension name (Some body)) =
    body_shape (quoted (codes "body")) (quoted (codes "extsrc")) (quoted (codes "name")) (quoted body) (quoted name)
