-- What parts of texts show, one by one: characters, references, and the nowikis that are put.
use Rattle.std.proofs.Common.{◌≡◌, ℕ, ◌+◌, Bool, true, false, None, Option, List, [], ◌∷◌, ◌++◌, map, refl, sym, ap, ◌∙◌, append_assoc, append-nil, subst}
use Rattle.std.specs.Prelude.{encode_utf8}
use Rattle.std.specs.List.{flat_map}
use Rattle.wt_tree.specs.declared.kind.Kind.TheVariants as kind
use Rattle.wt_tree.specs.Plain.{text, element, Plains, ended, along, text_before, plain_before, plains_before}
use Rattle.wt_span.specs.declared.form.ItemForm.TheVariants as form
use Rattle.wt_span.specs.Items.{Item}
use Rattle.wt_span.specs.Runs.{IsRun, AreRuns, runs}
use Rattle.wt_span.specs.Tags.{opening_tag, tag_after}
use Rattle.wt_span.proofs.RunLaws.{runs_are}
use Rattle.wt_guards.specs.Guards.{nowiki}
use Rattle.wt_guards.specs.Letters.{reference}
use Rattle.wt_inline.specs.declared.loose.Loose.TheVariants.{Text, Sep}
use Rattle.wt_inline.specs.Carried.{shown_item}
use Rattle.wt_inline.specs.ItemTree.{plain, ItemTree, inner, nothing, forest, tree_items}
use Rattle.wt_inline.specs.Parts.{Part, loose, node, held_parts, one_leaf, child, children, form_leaf, nowiki as nowiki_tree, parts}
use Rattle.wt_context.proofs.PlainNodes.{AreTexts, texts_first, texts_rest, text_parts}
use Rattle.wt_annotated.specs.CutTexts.{all_cut_texts}
use Rattle.wt_annotated.specs.Labels.{label_at}
use Rattle.wt_annotated.specs.Numbering.{count, all_with_numbers}
use Rattle.wt_annotated.specs.WithoutCalls.{placed, all_placed}
use Rattle.wt_part_laws.specs.Standing.{standing}
use Rattle.wt_part_laws.proofs.Moved.{shows_the_same}
use Rattle.wt_text_edit_laws.specs.LonePages.{page_chars}
use Rattle.wt_beside_laws.specs.Content.{guard_items, letter_items}
use Rattle.wt_beside_laws.specs.Shown.{parts_shown_at}

-- ---- the parts, one by one

pub twice : (bs cs : List ℕ) (ps : Plains) → text_before bs (text_before cs ps) ≡ text_before (bs ++ cs) ps
twice [] cs ps = refl
twice (b ∷ bs) [] ps = ap (λ (xs : List ℕ). text_before (b ∷ xs) ps) (sym (append-nil bs))
twice (b ∷ bs) (c ∷ cs) ended = refl
twice (b ∷ bs) (c ∷ cs) (along (text ds) ps) = ap (λ xs. along (text (b ∷ xs)) ps) (sym (append_assoc bs (c ∷ cs) ds))
twice (b ∷ bs) (c ∷ cs) (along (element f qs) ps) = refl

abbrev pub one_by_one : List Part → Plains → Plains
one_by_one [] rest = rest
one_by_one (loose k o b ∷ ps) rest = text_before (b ∷ []) (one_by_one ps rest)
one_by_one (node t ∷ ps) rest = plain_before (standing 0 [] t) (one_by_one ps rest)

pub shown_append : (ps qs : List Part) (rest : Plains) → one_by_one (ps ++ qs) rest ≡ one_by_one ps (one_by_one qs rest)
shown_append [] qs rest = refl
shown_append (loose k o b ∷ ps) qs rest = ap (text_before (b ∷ [])) (shown_append ps qs rest)
shown_append (node t ∷ ps) qs rest = ap (plain_before (standing 0 [] t)) (shown_append ps qs rest)

-- characters that are one leaf
pub text_shows : (o : Option ℕ) (b : ℕ) (r others : List Part) (rest : Plains) → IsRun one_leaf (loose Text o b ∷ r) others → AreTexts r
    → text_before (flat_map shown_item (held_parts (loose Text o b ∷ r))) rest ≡ one_by_one (loose Text o b ∷ r) rest
text_shows o b [] others rest h t = refl
text_shows o b (loose Text p c ∷ r) others rest h t =
    sym (twice (b ∷ []) (flat_map shown_item (held_parts (loose Text p c ∷ r))) rest) ∙ ap (text_before (b ∷ [])) (text_shows p c r others rest h.1 t.1)
text_shows o b (loose Sep p c ∷ r) others rest h t = absurd t.0
text_shows o b (node x ∷ r) others rest h t = let no = h.0 in cc

pub run_shows : (n : ℕ) (before : List Item) (r others : List Part) (rest : Plains) → IsRun one_leaf r others → AreTexts r
    → plain_before (standing n before (child r)) rest ≡ one_by_one r rest
unfolding label_at
run_shows n before [] others rest h t = absurd h
run_shows n before (loose Text o b ∷ r) others rest h t = text_shows o b r others rest h t.1
run_shows n before (loose Sep o b ∷ r) others rest h t = absurd t.0
run_shows n before (node x ∷ []) others rest h t = shows_the_same n 0 before [] x rest
run_shows n before (node x ∷ p ∷ r) others rest h t = let no = h.0 in cc

abbrev trees_shown : ℕ → List Item → List ItemTree → Plains → Plains
trees_shown n before ts rest = plains_before (all_cut_texts (all_with_numbers n (all_placed before (forest ts)))) rest

runs_show : (n : ℕ) (before : List Item) (rs : List (List Part)) (ps : List Part) (rest : Plains) → AreRuns one_leaf rs ps → AreTexts ps
    → trees_shown n before (map child rs) rest ≡ one_by_one ps rest
runs_show n before [] ps rest h t = sym (ap (λ qs. one_by_one qs rest) h)
runs_show n before (r ∷ rs) ps rest h t =
    let u : ItemTree = child r in
    let both : AreTexts (r ++ h.0) = subst AreTexts h.1 t in
    ap (plain_before (standing n before u)) (runs_show (n + count (placed before u)) (before ++ tree_items u) rs h.0 rest h.3 (texts_rest r h.0 both))
    ∙ run_shows n before r h.0 (one_by_one h.0 rest) h.2 (texts_first r h.0 both)
    ∙ sym (ap (λ qs. one_by_one qs rest) h.1 ∙ shown_append r h.0 rest)

pub children_show : (n : ℕ) (before : List Item) (ps : List Part) (rest : Plains) → AreTexts ps → parts_shown_at n before ps rest ≡ one_by_one ps rest
unfolding children
children_show n before ps rest t = runs_show n before (runs one_leaf ps) ps rest (runs_are one_leaf ps) t

-- ---- what is put, and what is typed

pub guard_tree : nowiki_tree None nowiki ≡ inner (plain kind.Nowiki) (page_chars nowiki) nothing []
unfolding nowiki_tree nowiki opening_tag tag_after children
guard_tree = refl

nothing_shown : (rest : Plains) → plain_before (standing 0 [] (nowiki_tree None nowiki)) rest ≡ rest
unfolding label_at
nothing_shown rest = ap (λ t. plain_before (standing 0 [] t) rest) guard_tree

pub guard_shows : (u : Bool) (ps : List Part) (rest : Plains) → one_by_one (parts Text (guard_items u) ++ ps) rest ≡ one_by_one ps rest
guard_shows true ps rest = nothing_shown (one_by_one ps rest)
guard_shows false ps rest = refl

bytes_show : (bs : List ℕ) (rest : Plains) → one_by_one (parts Text (page_chars bs)) rest ≡ text_before bs rest
bytes_show [] rest = refl
bytes_show (b ∷ bs) rest = ap (text_before (b ∷ [])) (bytes_show bs rest) ∙ twice (b ∷ []) bs rest

reference_shows : (c : ℕ) (bs : List ℕ) (rest : Plains) → plain_before (standing 0 [] (form_leaf (form.Entity c) None bs)) rest ≡ text_before (encode_utf8 c) rest
unfolding label_at
reference_shows c bs rest = refl

pub letter_shows : (e : Bool) (c : ℕ) (ps : List Part) (rest : Plains) → one_by_one (parts Text (letter_items e c) ++ ps) rest ≡ text_before (encode_utf8 c) (one_by_one ps rest)
letter_shows true c ps rest = reference_shows c (reference c) (one_by_one ps rest)
letter_shows false c ps rest =
    shown_append (parts Text (page_chars (encode_utf8 c))) ps rest ∙ bytes_show (encode_utf8 c) (one_by_one ps rest)

-- ---- the content

pub guard_texts : (u : Bool) → AreTexts (parts Text (guard_items u))
guard_texts u = text_parts (guard_items u)
