-- What is written for texts beside calls can be read by itself.
use Rattle.std.proofs.Common.{arith, ◌≡◌, inl, inr, ℕ, suc, ◌+◌, ◌<◌, ◌≤◌, ◌==◌, Bool, true, false, Option, None, Some, List, [], ◌∷◌, ◌++◌, length, map, refl, sym, ap, ap₂, ◌∙◌, subst, append-nil}
use Rattle.std.specs.Prelude.{◌&&◌, slice_get, encode_utf8}
use Rattle.std.specs.List.{list_all}
use Rattle.std.specs.Fmt.{digits}
use Rattle.std.proofs.lemmas.Bool.{cases_lt}
use Rattle.std.proofs.lemmas.Bool.Decides.{nat_tests}
use Rattle.wt_tree.specs.declared.kind.Kind.TheVariants as kind
use Rattle.wt_tree.specs.Tiling.{HasNoGroup}
use Rattle.wt_span.specs.declared.form.ItemForm.TheVariants as form
use Rattle.wt_span.specs.Items.{Item, char, whole}
use Rattle.wt_span.specs.Cuts.{source_of_call}
use Rattle.wt_span.specs.Origins.{OuterCall, same_call}
use Rattle.wt_guards.specs.declared.role.Transclusion.{Transclusion}
use Rattle.wt_guards.specs.Content.{ContentSign, Thing, letter, thing}
use Rattle.wt_guards.specs.Guards.{Setting, nowiki, is_guarded, spelled}
use Rattle.wt_guards.specs.Letters.{is_escaped, reference}
use Rattle.wt_guards.proofs.Escapes.{is_escapable, escapable, each_escapable}
use Rattle.wt_expand.specs.PageCalls.{Stretch, own, outer, text_call, from_call, outer_items, numbered, outer_calls, page_stretches, expanded_page}
use Rattle.wt_expand.specs.Work.{Pages}
use Rattle.wt_expand.proofs.PiecePlaces.{AllFrom}
use Rattle.wt_lines.specs.Lines.{lines}
use Rattle.wt_inline.specs.declared.loose.Loose.TheVariants.{Text, Sep}
use Rattle.wt_inline.specs.ItemTree.{plain, ItemTree, inner, nothing, tree_items}
use Rattle.wt_inline.specs.Parts.{Part, loose, node, held_parts, children, parts, nowiki as nowiki_tree}
use Rattle.wt_inline.proofs.HeldLaws.{held_append}
use Rattle.wt_context.specs.Line.{line_parts}
use Rattle.wt_annotated.specs.Clean.{is_no_call, is_page}
use Rattle.wt_annotated.specs.Labels.{label_at}
use Rattle.wt_annotated.specs.Seams.{text_from}
use Rattle.wt_isolation.specs.OpenTags.{ends_open, node_ends_open}
use Rattle.wt_part_laws.specs.CallPieces.{AreItemsOf, IsOfCall, EachNode, call_pieces}
use Rattle.wt_part_laws.specs.Expanded.{part_items, calls_in}
use Rattle.wt_part_laws.specs.MovedCalls.{IsMoved, AreMoved}
use Rattle.wt_part_laws.specs.Standing.{standing}
use Rattle.wt_text_edit_laws.specs.LonePages.{page_chars}
use Rattle.wt_text_edit_laws.specs.ParagraphParts.{joined_parts}
use Rattle.wt_text_edit_laws.specs.TextBlocks.{a_paragraph}
use Rattle.wt_beside_laws.specs.NodeItems.{node_items}
use Rattle.wt_beside_laws.specs.Called.{items_with, owns_in, parts_with, GivesGroup, ArePageParts, StaysAsItIs, StaysRound, IsOfFolder, AreOfFolder, IsCalledIn}
use Rattle.wt_beside_laws.specs.Content.{guard_items, letter_items}
use Rattle.wt_beside_laws.specs.Given.{AreGivenBy, GivesSigns}
use Rattle.wt_beside_laws.specs.RoundCalls.{IsRoundCalls, AreShutCalls}
use Rattle.wt_beside_laws.proofs.LineShown.{guard_tree}
use Rattle.wt_beside_laws.proofs.Groups.CalledBlocks.{each_both, guard_own, guard_parts, letter_own, letter_parts, called_pieces, some_of_page}
use Rattle.wt_beside_laws.proofs.Groups.CalledParagraphs.{called_parts}
use Rattle.wt_beside_laws.proofs.Groups.Folders.{folder_case, stays_inside, group_inside, all_inside, called_in}
use Rattle.wt_beside_laws.proofs.Groups.RoundNodes.{deep_round}
use Rattle.wt_called_edit_laws.specs.WholeContents.{of_call, AreGroups, IsShutNode, AreShutParts, IsShut, AreShut, IsShutRound, IsPartIn, ArePartsIn, HoldsGroups, IsWholeIn}
use Rattle.wt_called_edit_laws.proofs.Whole.PartsIn.{simple_within, simple_parts, round_node}
use Rattle.wt_called_edit_laws.specs.Written.{written_calls}
use Rattle.wt_called_edit_laws.specs.WrittenAnew.{IsWrittenBeside}
use Rattle.wt_called_edit_laws.specs.PartTexts.{AreSourcesAt}
use Rattle.wt_called_edit_laws.proofs.PartTexts.{OwnPage, own_page, call_text, part_text}
use Rattle.wt_called_edit_laws.proofs.Whole.GroupsAlone.{past_first, groups_call, groups_page, groups_round}
use Rattle.wt_called_edit_laws.proofs.Whole.OfCall.{is_same, of_before, of_here, of_past, of_append, of_own, of_page, of_same, before_part, behind_part}
use Rattle.wt_called_edit_laws.proofs.Whole.Pieces.{some_items}
use Rattle.wt_called_edit_laws.proofs.Whole.SourcesAt.{sources_split, sources_before}
use Rattle.wt_called_edit_laws.proofs.Written.Held.{written_gives}
use Rattle.wt_called_edit_laws.proofs.Written.Signs.{content_written}

-- ---- no node ends in an open tag

pub shut_both : (ps qs : List Part) → AreShutParts ps → AreShutParts qs → AreShutParts (ps ++ qs)
shut_both [] qs h k = k
shut_both (loose Text o b ∷ ps) qs h g = shut_both ps qs h g
shut_both (loose Sep o b ∷ ps) qs h g = absurd h
shut_both (node t ∷ ps) qs h k = (h.0, shut_both ps qs h.1 k)

chars_shut : (o : Option ℕ) (bs : List ℕ) → AreShutParts (parts Text (map (char o) bs))
chars_shut o [] = tt
chars_shut o (b ∷ bs) = chars_shut o bs

abbrev IsShutTree : ItemTree → Type 0
IsShutTree t = (node_ends_open (standing 0 [] t) ≡ false) × HasNoGroup (standing 0 [] t)

plain_guard : IsShutTree (inner (plain kind.Nowiki) (page_chars nowiki) nothing [])
unfolding label_at nowiki
plain_guard = (refl, (refl, tt))

pub guard_shut : (u : Bool) → AreShutParts (parts Text (guard_items u))
guard_shut true = let h : IsShutTree (nowiki_tree None nowiki) = subst IsShutTree (sym guard_tree) plain_guard in ((λ e. h), tt)
guard_shut false = tt

reference_shut : (c : ℕ) → is_escapable c ≡ true → ends_open (reference c) ≡ false
unfolding reference digits
reference_shut c e = each_escapable (λ k. ends_open (reference k) ≡ false) refl refl refl refl refl refl refl refl refl refl refl refl refl c e

pub letter_shut : (e : Bool) (c : ℕ) → (e ≡ true → is_escapable c ≡ true) → AreShutParts (parts Text (letter_items e c))
unfolding label_at
letter_shut true c h = ((λ e. (ap ends_open (append-nil (reference c)) ∙ reference_shut c (h refl), (refl, tt))), tt)
letter_shut false c h = chars_shut None (encode_utf8 c)

-- nodes of a call are none of the page
pub call_shut_parts : (j : ℕ) (ps : List Part) → AreGivenBy j ps → AreShutParts ps
call_shut_parts j [] h = tt
call_shut_parts j (loose Text o b ∷ ps) h = call_shut_parts j ps h.1
call_shut_parts j (loose Sep o b ∷ ps) h = absurd h
call_shut_parts j (node t ∷ ps) h = (not_page j t h.0, call_shut_parts j ps h.1)
  where
    not_page : (j : ℕ) (t : ItemTree) → IsOfCall j t → IsShutNode t
    not_page j t k = λ e.
        let of_page : list_all is_page (k.first ∷ k.others) ≡ true = ap (list_all is_page) (sym k.is) ∙ e in
        let first : is_page k.first ≡ false = ap is_no_call k.of_call.0 in
        let none : list_all is_page (k.first ∷ k.others) ≡ false = ap (λ (v : Bool). v && list_all is_page k.others) first in
        let no : false ≡ true = sym none ∙ of_page in absurd (cc)

-- nor is a node round calls by itself
pub round_shut_parts : (mine : List Item) → IsRoundCalls mine → AreShutParts (line_parts mine)
round_shut_parts mine r = subst AreShutParts (sym r.is) ((λ e. let no : true ≡ false = sym e ∙ r.called in absurd (cc)), tt)

pub own_shut : (pages : Pages) (i : ℕ) (t : Thing) → IsOfFolder t.role pages t → IsShut t → AreShutParts (line_parts (numbered i (page_stretches pages t.source)))
own_shut pages i t h s = elim (folder_case t.role pages t h) [
  | inl k ↦
      let stays : StaysAsItIs pages t = k.0 in
      subst (λ (xs : List Item). AreShutParts (line_parts xs)) (sym (stays.items i)) (s.1 k.1)
  | inr e ↦ elim e [
    | inl k ↦ let stays : StaysRound pages t = k.0 in round_shut_parts (numbered i (page_stretches pages t.source)) (stays.round i)
    | inr k ↦ let group = k.2 i in let gives = group.gives in call_shut_parts i (line_parts (numbered i (page_stretches pages t.source))) gives.inside
  ]
]

pub parts_shut : (pages : Pages) (i : ℕ) (s : Setting) (before signs : List ContentSign) → AreOfFolder pages signs → AreShut signs
    → AreShutParts (parts_with s before signs (owns_in pages i signs))
parts_shut pages i s before [] h g = guard_shut (is_guarded s before [])
parts_shut pages i s before (letter c ∷ after) h g =
    let e : Bool = is_escaped s.within s.place before c after in
    let u : Bool = is_guarded s before (letter c ∷ after) in
    let more : List Part = parts_with s (letter c ∷ before) after (owns_in pages i after) in
    shut_both (parts Text (guard_items u)) (parts Text (letter_items e c) ++ more) (guard_shut u)
    (shut_both (parts Text (letter_items e c)) more (letter_shut e c (λ x. escapable s.within s.place before c after x)) (parts_shut pages i s (letter c ∷ before) after h g))
parts_shut pages i s before (thing t ∷ after) h g =
    let xs : List Item = numbered i (page_stretches pages t.source) in
    let u : Bool = is_guarded s before (thing t ∷ after) in
    let next : ℕ = i + length (expanded_page pages t.source).outer in
    let more : List Part = parts_with s (thing t ∷ before) after (owns_in pages next after) in
    shut_both (parts Text (guard_items u)) (line_parts xs ++ more) (guard_shut u)
    (shut_both (line_parts xs) more (own_shut pages i t h.0 g.0) (parts_shut pages next s (thing t ∷ before) after h.1 g.1))

-- ---- what each call gives

pub guard_none : (j : ℕ) (u : Bool) → of_call j (guard_items u) ≡ []
guard_none j true = refl
guard_none j false = refl

chars_none : (j : ℕ) (bs : List ℕ) → of_call j (page_chars bs) ≡ []
chars_none j [] = refl
chars_none j (b ∷ bs) = chars_none j bs

pub letter_none : (j : ℕ) (e : Bool) (c : ℕ) → of_call j (letter_items e c) ≡ []
letter_none j true c = refl
letter_none j false c = chars_none j (encode_utf8 c)

pub past_both : (j : ℕ) (xs ys zs : List Item) → of_call j xs ≡ [] → of_call j (xs ++ (ys ++ zs)) ≡ of_call j ys ++ of_call j zs
past_both j xs ys zs e = of_append j xs (ys ++ zs) ∙ ap (λ (us : List Item). us ++ of_call j (ys ++ zs)) e ∙ of_append j ys zs

pub all_before : (pages : Pages) (i j : ℕ) (s : Setting) (before signs : List ContentSign) → j < i
    → of_call j (items_with s before signs (owns_in pages i signs)) ≡ []
all_before pages i j s before [] l = guard_none j (is_guarded s before [])
all_before pages i j s before (letter c ∷ after) l =
    let e : Bool = is_escaped s.within s.place before c after in
    let u : Bool = is_guarded s before (letter c ∷ after) in
    let rest : List Item = items_with s (letter c ∷ before) after (owns_in pages i after) in
    past_both j (guard_items u) (letter_items e c) rest (guard_none j u)
    ∙ ap₂ (λ (us vs : List Item). us ++ vs) (letter_none j e c) (all_before pages i j s (letter c ∷ before) after l)
all_before pages i j s before (thing t ∷ after) l =
    let u : Bool = is_guarded s before (thing t ∷ after) in
    let next : ℕ = i + length (expanded_page pages t.source).outer in
    let rest : List Item = items_with s (thing t ∷ before) after (owns_in pages next after) in
    past_both j (guard_items u) (numbered i (page_stretches pages t.source)) rest (guard_none j u)
    ∙ ap₂ (λ (us vs : List Item). us ++ vs) (before_part pages j i t.source l) (all_before pages next j s (thing t ∷ before) after (omega (arith, l)))

-- a node that stays as it is gives nothing by a call
stays_none : (pages : Pages) (i j : ℕ) (t : Thing) → StaysAsItIs pages t → of_call j (numbered i (page_stretches pages t.source)) ≡ []
stays_none pages i j t h =
    let later : j < suc j = omega arith in
    ap (of_call j) (h.items i ∙ sym (h.items (suc j))) ∙ before_part pages j (suc j) t.source later

-- what a call gives comes from no other one
other_items : (i j : ℕ) (xs : List Item) → (i == j) ≡ false → AreItemsOf i xs → of_call j xs ≡ []
other_items i j [] e h = refl
other_items i j (x ∷ xs) e h = of_past j x xs (ap (λ (o : Option ℕ). same_call o (Some j)) h.0 ∙ e) ∙ other_items i j xs e h.1

-- a call that gives a group is one call at least
pub has_call : (pages : Pages) (i : ℕ) (g : Transclusion) (source : List ℕ) → GivesGroup pages g source → 0 < calls_in pages source
has_call pages i g source h = elim (cases_lt 0 (calls_in pages source)) [
  | inl l ↦ l
  | inr l ↦
      let group = h i in
      let gives : GivesSigns i (part_items pages i source) = group.gives in
      let some = some_items i (part_items pages i source) gives in
      let all : of_call i (part_items pages i source) ≡ part_items pages i source = of_same i (part_items pages i source) gives.of_call in
      let none : of_call i (part_items pages i source) ≡ [] = behind_part pages i i source (omega (arith, l)) in
      let no : some.0 ∷ some.1 ≡ [] = sym some.2 ∙ sym all ∙ none in absurd (cc)
]

-- ---- among the parts no other call comes before its own

pub page_none : (j : ℕ) (ps : List Part) → ArePageParts ps → of_call j (held_parts ps) ≡ []
page_none j [] h = refl
page_none j (loose Text o b ∷ ps) h =
    of_past j (char o b) (held_parts ps) (ap (λ (x : Option ℕ). same_call x (Some j)) h.0) ∙ page_none j ps h.1
page_none j (loose Sep o b ∷ ps) h = absurd h
page_none j (node t ∷ ps) h =
    let first = h.0 in
    of_append j (tree_items t) (held_parts ps)
    ∙ ap₂ (λ (us vs : List Item). us ++ vs) (of_page j (tree_items t) first.of_page) (page_none j ps h.1)

other_parts : (i j : ℕ) (ps : List Part) → (i == j) ≡ false → AreGivenBy i ps → of_call j (held_parts ps) ≡ []
other_parts i j [] e h = refl
other_parts i j (loose Text o b ∷ ps) e h =
    of_past j (char o b) (held_parts ps) (ap (λ (x : Option ℕ). same_call x (Some j)) h.0 ∙ e) ∙ other_parts i j ps e h.1
other_parts i j (loose Sep o b ∷ ps) e h = absurd h
other_parts i j (node t ∷ ps) e h =
    let first : IsOfCall i t = h.0 in
    of_append j (tree_items t) (held_parts ps)
    ∙ ap₂ (λ (us vs : List Item). us ++ vs) (ap (of_call j) first.is ∙ other_items i j (first.first ∷ first.others) e first.of_call) (other_parts i j ps e h.1)

later_call : (i j : ℕ) → j < i → (i == j) ≡ false
later_call i j l = grind (arith, nat_tests)

-- what is in a node round calls are its items
round_items_of : (j : ℕ) (mine : List Item) → IsRoundCalls mine → of_call j (held_parts (line_parts mine)) ≡ of_call j mine
round_items_of j mine r =
    ap (λ (ps : List Part). of_call j (held_parts ps)) r.is ∙ ap (of_call j) (append-nil (tree_items r.tree) ∙ r.whole)

pub thing_none : (pages : Pages) (i j : ℕ) (t : Thing) → IsOfFolder t.role pages t → j < i → of_call j (held_parts (line_parts (part_items pages i t.source))) ≡ []
thing_none pages i j t h l = elim (folder_case t.role pages t h) [
  | inl k ↦
      let stays : StaysAsItIs pages t = k.0 in
      page_none j (line_parts (part_items pages i t.source)) (subst (λ (xs : List Item). ArePageParts (line_parts xs)) (sym (stays.items i)) (some_of_page (line_parts (node_items t.source)) stays.own))
  | inr e ↦ elim e [
    | inl k ↦ let stays : StaysRound pages t = k.0 in round_items_of j (part_items pages i t.source) (stays.round i) ∙ before_part pages j i t.source l
    | inr k ↦
        let group = k.2 i in
        let gives : GivesSigns i (part_items pages i t.source) = group.gives in
        other_parts i j (line_parts (part_items pages i t.source)) (later_call i j l) gives.inside
  ]
]

pub three_none : (j : ℕ) (ps qs rs : List Part) → of_call j (held_parts ps) ≡ [] → of_call j (held_parts qs) ≡ [] → of_call j (held_parts rs) ≡ []
    → of_call j (held_parts (ps ++ (qs ++ rs))) ≡ []
three_none j ps qs rs e f g =
    ap (of_call j) (held_append ps (qs ++ rs)) ∙ of_append j (held_parts ps) (held_parts (qs ++ rs))
    ∙ ap₂ (λ (us vs : List Item). us ++ vs) e
    (ap (of_call j) (held_append qs rs) ∙ of_append j (held_parts qs) (held_parts rs) ∙ ap₂ (λ (us vs : List Item). us ++ vs) f g)

later_none : (pages : Pages) (i j : ℕ) (s : Setting) (before signs : List ContentSign) → AreOfFolder pages signs → j < i
    → of_call j (held_parts (parts_with s before signs (owns_in pages i signs))) ≡ []
later_none pages i j s before [] h l = page_none j (parts Text (guard_items (is_guarded s before []))) (guard_parts (is_guarded s before []))
later_none pages i j s before (letter c ∷ after) h l =
    let e : Bool = is_escaped s.within s.place before c after in
    let u : Bool = is_guarded s before (letter c ∷ after) in
    three_none j (parts Text (guard_items u)) (parts Text (letter_items e c)) (parts_with s (letter c ∷ before) after (owns_in pages i after))
    (page_none j (parts Text (guard_items u)) (guard_parts u)) (page_none j (parts Text (letter_items e c)) (letter_parts e c))
    (later_none pages i j s (letter c ∷ before) after h l)
later_none pages i j s before (thing t ∷ after) h l =
    let u : Bool = is_guarded s before (thing t ∷ after) in
    let next : ℕ = i + length (expanded_page pages t.source).outer in
    three_none j (parts Text (guard_items u)) (line_parts (part_items pages i t.source)) (parts_with s (thing t ∷ before) after (owns_in pages next after))
    (page_none j (parts Text (guard_items u)) (guard_parts u)) (thing_none pages i j t h.0 l)
    (later_none pages next j s (thing t ∷ before) after h.1 (omega (arith, l)))

-- ---- what each call gives is a group by itself

-- from this call on, all items are those of these signs
abbrev pub AreLastOf : List Item → ℕ → List Item → Type 0
AreLastOf all i xs = (j : ℕ) → i ≤ j → of_call j all ≡ of_call j xs

pub last_thing : (pages : Pages) (all : List Item) (i : ℕ) (t : Thing) (u : Bool) (rest : List Item) → AreLastOf all i (guard_items u ++ (part_items pages i t.source ++ rest))
    → AreLastOf all (i + calls_in pages t.source) rest
last_thing pages all i t u rest f = λ j l.
    f j (omega (arith, l))
    ∙ past_both j (guard_items u) (part_items pages i t.source) rest (guard_none j u)
    ∙ ap (λ (us : List Item). us ++ of_call j rest) (behind_part pages j i t.source l)

group_here : (pages : Pages) (all : List Item) (i : ℕ) (s : Setting) (t : Thing) (g : Transclusion) (before after : List ContentSign) → GivesGroup pages g t.source
    → AreOfFolder pages after
    → AreLastOf all i (guard_items (is_guarded s before (thing t ∷ after)) ++ (part_items pages i t.source ++ items_with s (thing t ∷ before) after (owns_in pages (i + calls_in pages t.source) after)))
    → AreGroups all (call_pieces (children (parts_with s (thing t ∷ before) after (owns_in pages (i + calls_in pages t.source) after))))
    → AreGroups all (call_pieces (children (line_parts (part_items pages i t.source) ++ parts_with s (thing t ∷ before) after (owns_in pages (i + calls_in pages t.source) after))))
group_here pages all i s t g before after h k f later =
    let xs : List Item = part_items pages i t.source in
    let next : ℕ = i + calls_in pages t.source in
    let rest : List Item = items_with s (thing t ∷ before) after (owns_in pages next after) in
    let more : List Part = parts_with s (thing t ∷ before) after (owns_in pages next after) in
    let u : Bool = is_guarded s before (thing t ∷ after) in
    let group = h i in
    let gives : GivesSigns i xs = group.gives in
    let some : 0 < calls_in pages t.source = has_call pages i g t.source h in
    let less : i < next = omega (arith, some) in
    let is : of_call i all ≡ xs =
    f i (omega arith)
    ∙ past_both i (guard_items u) xs rest (guard_none i u)
    ∙ ap₂ (λ (us vs : List Item). us ++ vs) (of_same i xs gives.of_call) (all_before pages next i s (thing t ∷ before) after less)
    ∙ append-nil xs in
    subst (λ (ys : List Item). AreGroups all (call_pieces (children (line_parts ys ++ more)))) is
    (groups_call all i more (subst (λ (ys : List Item). AreGivenBy i (line_parts ys)) (sym is) gives.inside) (subst (GivesSigns i) (sym is) gives)
    (called_pieces s (thing t ∷ before) after (owns_in pages next after) (all_inside pages next after k))
    (past_first i (held_parts more) (later_none pages next i s (thing t ∷ before) after k less)) later)

pub no_groups : (xs : List Item) → AreGroups xs (call_pieces (children []))
unfolding children
no_groups xs = tt

pub groups_from : (pages : Pages) (all : List Item) (i : ℕ) (s : Setting) (before signs : List ContentSign) → AreOfFolder pages signs
    → AreLastOf all i (items_with s before signs (owns_in pages i signs)) → AreGroups all (call_pieces (children (parts_with s before signs (owns_in pages i signs))))
groups_from pages all i s before [] h f =
    let ps : List Part = parts Text (guard_items (is_guarded s before [])) in
    subst (λ (qs : List Part). AreGroups all (call_pieces (children qs))) (append-nil ps)
    (groups_page all ps [] (guard_parts (is_guarded s before [])) (no_groups all))
groups_from pages all i s before (letter c ∷ after) h f =
    let e : Bool = is_escaped s.within s.place before c after in
    let u : Bool = is_guarded s before (letter c ∷ after) in
    let more : List Part = parts_with s (letter c ∷ before) after (owns_in pages i after) in
    let rest : List Item = items_with s (letter c ∷ before) after (owns_in pages i after) in
    groups_page all (parts Text (guard_items u)) (parts Text (letter_items e c) ++ more) (guard_parts u)
    (groups_page all (parts Text (letter_items e c)) more (letter_parts e c)
    (groups_from pages all i s (letter c ∷ before) after h (λ j l.
    f j l ∙ past_both j (guard_items u) (letter_items e c) rest (guard_none j u) ∙ ap (λ (us : List Item). us ++ of_call j rest) (letter_none j e c))))
groups_from pages all i s before (thing t ∷ after) h f =
    let u : Bool = is_guarded s before (thing t ∷ after) in
    let next : ℕ = i + calls_in pages t.source in
    let more : List Part = parts_with s (thing t ∷ before) after (owns_in pages next after) in
    let rest : List Item = items_with s (thing t ∷ before) after (owns_in pages next after) in
    let later : AreGroups all (call_pieces (children more)) =
    groups_from pages all next s (thing t ∷ before) after h.1 (last_thing pages all i t u rest f) in
    groups_page all (parts Text (guard_items u)) (line_parts (part_items pages i t.source) ++ more) (guard_parts u)
    (elim (folder_case t.role pages t h.0) [
      | inl k ↦
          let stays : StaysAsItIs pages t = k.0 in
          groups_page all (line_parts (part_items pages i t.source)) more
          (subst (λ (xs : List Item). ArePageParts (line_parts xs)) (sym (stays.items i)) (some_of_page (line_parts (node_items t.source)) stays.own)) later
      | inr e ↦ elim e [
        | inl k ↦ let stays : StaysRound pages t = k.0 in groups_round all (part_items pages i t.source) more (stays.round i) later
        | inr k ↦ group_here pages all i s t k.0 before after k.2 h.1 f later
      ]
    ])

-- ---- the calls of a node

given_first : (k : ℕ) (c : OuterCall) (xs rest : List Item) → of_call k (outer_items k c xs ++ rest) ≡ [] → ⊥
given_first k c [] rest e =
    let is = of_here k (whole form.EmptyCall (Some k) c.source) rest (is_same (Some k) k refl) in
    let no : whole form.EmptyCall (Some k) c.source ∷ of_call k rest ≡ [] = sym is ∙ e in cc
given_first k c (char o b ∷ xs) rest e =
    let more : List Item = map (from_call k) xs ++ rest in
    let is = of_here k (char (Some k) b) more (is_same (Some k) k refl) in
    let no : char (Some k) b ∷ of_call k more ≡ [] = sym is ∙ e in cc
given_first k c (whole f o bs ∷ xs) rest e =
    let more : List Item = map (from_call k) xs ++ rest in
    let is = of_here k (whole f (Some k) bs) more (is_same (Some k) k refl) in
    let no : whole f (Some k) bs ∷ of_call k more ≡ [] = sym is ∙ e in cc

-- where nothing comes from a call, there is none
none_given : (k : ℕ) (ss : List Stretch) → OwnPage ss → ((j : ℕ) → of_call j (numbered k ss) ≡ []) → outer_calls ss ≡ []
none_given k [] h f = refl
none_given k (own xs ∷ ss) h f =
    none_given k ss h.1
    (λ j. sym (of_append j xs (numbered k ss) ∙ ap (λ (us : List Item). us ++ of_call j (numbered k ss)) (of_own j xs h.0)) ∙ f j)
none_given k (outer c xs ∷ ss) h f = absurd (given_first k c xs (numbered (suc k) ss) (f k))
none_given k (text_call s ∷ ss) h f = none_given k ss h f

split_from : (o : Option ℕ) (xs ys : List Item) → AllFrom o (xs ++ ys) → AllFrom o ys
split_from o [] ys h = h
split_from o (x ∷ xs) ys h = split_from o xs ys h.1

other_none : (j k : ℕ) (xs : List Item) → (k == j) ≡ false → AllFrom (Some k) xs → of_call j xs ≡ []
other_none j k [] e h = refl
other_none j k (x ∷ xs) e h = of_past j x xs (ap (λ (o : Option ℕ). same_call o (Some j)) h.0 ∙ e) ∙ other_none j k xs e h.1

-- one call at most
abbrev AreOne : List OuterCall → Type 0
AreOne [] = Unit {0}
AreOne (c ∷ []) = Unit {0}
AreOne (c ∷ d ∷ cs) = ⊥

one_none : (cs : List OuterCall) (c : OuterCall) → cs ≡ [] → AreOne (c ∷ cs)
one_none [] c e = tt
one_none (d ∷ cs) c e = absurd (cc)

one_given : (k : ℕ) (ss : List Stretch) → OwnPage ss → AllFrom (Some k) (numbered k ss) → AreOne (outer_calls ss)
one_given k [] h f = tt
one_given k (own [] ∷ ss) h f = one_given k ss h.1 f
one_given k (own (x ∷ xs) ∷ ss) h f = let no : None ≡ Some k = sym h.0.0 ∙ f.0 in absurd (cc)
one_given k (outer c xs ∷ ss) h f =
    let rest : AllFrom (Some k) (numbered (suc k) ss) = split_from (Some k) (outer_items k c xs) (numbered (suc k) ss) f in
    one_none (outer_calls ss) c (none_given (suc k) ss h (λ j. elim (cases_lt k j) [
      | inl l ↦ other_none j k (numbered (suc k) ss) (apart k j l) rest
      | inr l ↦ of_before j (suc k) ss h (omega (arith, l))
    ]))
  where
    apart : (k j : ℕ) → k < j → (k == j) ≡ false
    apart k j l = grind (arith, nat_tests)
one_given k (text_call s ∷ ss) h f = one_given k ss h f

from_call_items : (k : ℕ) (xs : List Item) → AreItemsOf k xs → AllFrom (Some k) xs
from_call_items k [] h = tt
from_call_items k (x ∷ xs) h = (h.0, from_call_items k xs h.1)

own_sources : (calls : List OuterCall) (cs : List OuterCall) → calls ≡ cs → AreOne cs → AreSourcesAt calls 0 cs
own_sources calls [] e h = tt
own_sources calls (c ∷ []) e h = (ap (λ (ds : List OuterCall). source_of_call (slice_get ds 0)) e, tt)
own_sources calls (c ∷ d ∷ cs) e h = absurd h

stays_calls : (pages : Pages) (t : Thing) → StaysAsItIs pages t → (expanded_page pages t.source).outer ≡ []
unfolding expanded_page
stays_calls pages t h = none_given 0 (page_stretches pages t.source) (own_page pages t.source) (λ j. stays_none pages 0 j t h)

group_one : (pages : Pages) (g : Transclusion) (source : List ℕ) → GivesGroup pages g source → AreOne (expanded_page pages source).outer
unfolding expanded_page
group_one pages g source h =
    let group = h 0 in
    let gives : GivesSigns 0 (part_items pages 0 source) = group.gives in
    one_given 0 (page_stretches pages source) (own_page pages source) (from_call_items 0 (part_items pages 0 source) gives.of_call)

-- a call that gives a group is one, and it is this source
pub record IsOneCall (calls : List OuterCall) (source : List ℕ) : Type 0 where
  pub call : OuterCall
  pub is : calls ≡ call ∷ []
  pub of_source : call.source ≡ source

one_call : (bs : List ℕ) (calls : List OuterCall) (x : Item) (xs : List Item) → AreOne calls → 0 < length calls → AreItemsOf 0 (x ∷ xs)
    → text_from calls None (x ∷ xs) ≡ bs → IsOneCall calls bs
one_call bs [] x xs h n k e = absurd (omega (arith, n))
one_call bs (c ∷ []) x xs h n k e =
    let text : text_from (c ∷ []) None (x ∷ xs) ≡ c.source = call_text (c ∷ []) None 0 x xs tt (from_call_items 0 (x ∷ xs) k) in
    record { call = c; is = refl; of_source = sym text ∙ e }
one_call bs (c ∷ d ∷ cs) x xs h n k e = absurd h

pub group_source : (pages : Pages) (g : Transclusion) (source : List ℕ) → GivesGroup pages g source → IsOneCall (expanded_page pages source).outer source
group_source pages g source h =
    let calls : List OuterCall = (expanded_page pages source).outer in
    let xs : List Item = part_items pages 0 source in
    let one : AreOne calls = group_one pages g source h in
    let group = h 0 in
    let gives : GivesSigns 0 xs = group.gives in
    let some = some_items 0 xs gives in
    one_call source calls some.0 some.1 one (has_call pages 0 g source h) (subst (AreItemsOf 0) some.2 gives.of_call)
    (ap (text_from calls None) (sym some.2) ∙ part_text pages calls 0 source (own_sources calls calls refl one))

pub thing_calls : (pages : Pages) (t : Thing) → IsOfFolder t.role pages t → ends_open t.source ≡ false → AreShutCalls (expanded_page pages t.source).outer
thing_calls pages t h e = elim (folder_case t.role pages t h) [
  | inl k ↦ subst AreShutCalls (sym (stays_calls pages t k.0)) tt
  | inr f ↦ elim f [
    | inl k ↦ let stays : StaysRound pages t = k.0 in stays.calls
    | inr k ↦
        let one = group_source pages k.0 t.source k.2 in
        subst AreShutCalls (sym one.is) (ap ends_open one.of_source ∙ e, tt)
  ]
]

pub calls_both : (cs ds : List OuterCall) → AreShutCalls cs → AreShutCalls ds → AreShutCalls (cs ++ ds)
calls_both [] ds h k = k
calls_both (c ∷ cs) ds h k = (h.0, calls_both cs ds h.1 k)

pub written_shut : (pages : Pages) (signs : List ContentSign) → AreOfFolder pages signs → AreShut signs → AreShutCalls (written_calls pages signs)
written_shut pages [] h g = tt
written_shut pages (letter c ∷ after) h g = written_shut pages after h g
written_shut pages (thing t ∷ after) h g =
    let own = g.0 in
    calls_both (expanded_page pages t.source).outer (written_calls pages after) (thing_calls pages t h.0 own.0) (written_shut pages after h.1 g.1)

pub moved_shut : (cs ds : List OuterCall) → AreMoved cs ds → AreShutCalls cs → AreShutCalls ds
moved_shut [] [] m h = tt
moved_shut [] (d ∷ ds) m h = absurd m
moved_shut (c ∷ cs) [] m h = absurd m
moved_shut (c ∷ cs) (d ∷ ds) m h =
    let o : IsMoved c d = m.0 in
    let same : d.source ≡ c.source = ap (λ (x : OuterCall). x.source) o.now ∙ sym (ap (λ (x : OuterCall). x.source) o.was) in
    (ap ends_open same ∙ h.0, moved_shut cs ds m.1 h.1)

-- ---- its nodes

-- a node round calls is its source in the page
round_is_shut : (pages : Pages) (calls : List OuterCall) (i : ℕ) (t : Thing) → StaysRound pages t → ends_open t.source ≡ false
    → AreSourcesAt calls i (expanded_page pages t.source).outer → (r : IsRoundCalls (part_items pages i t.source)) → IsShutRound calls r.tree
round_is_shut pages calls i t h e a r = record {
  round = deep_round r.tree r.deep;
  plain = r.plain;
  shut = ap (λ (xs : List Item). ends_open (text_from calls None xs)) r.whole ∙ ap ends_open (part_text pages calls i t.source a) ∙ e;
}

pub thing_parts : (n : ℕ) (pages : Pages) (calls : List OuterCall) (all : List Item) (i : ℕ) (t : Thing) → IsOfFolder t.role pages t → ends_open t.source ≡ false
    → AreSourcesAt calls i (expanded_page pages t.source).outer → EachNode (IsPartIn n calls all) (line_parts (part_items pages i t.source))
thing_parts n pages calls all i t h e a = elim (folder_case t.role pages t h) [
  | inl k ↦ simple_within n calls all (line_parts (part_items pages i t.source)) (stays_inside pages i t k.0)
  | inr f ↦ elim f [
    | inl k ↦
        let stays : StaysRound pages t = k.0 in
        let r : IsRoundCalls (part_items pages i t.source) = stays.round i in
        subst (EachNode (IsPartIn n calls all)) (sym r.is) (round_node n calls all r.tree (round_is_shut pages calls i t stays e a r), tt)
    | inr k ↦ simple_within n calls all (line_parts (part_items pages i t.source)) (group_inside pages i k.0 t k.2)
  ]
]

pub signs_parts : (pages : Pages) (calls : List OuterCall) (all : List Item) (i : ℕ) (s : Setting) (before signs : List ContentSign) → AreOfFolder pages signs
    → AreShut signs → AreSourcesAt calls i (written_calls pages signs) → ArePartsIn calls all (parts_with s before signs (owns_in pages i signs))
signs_parts pages calls all i s before [] h g a = let u : Bool = is_guarded s before [] in simple_parts calls all (parts Text (guard_items u)) (guard_own u)
signs_parts pages calls all i s before (letter c ∷ after) h g a =
    let e : Bool = is_escaped s.within s.place before c after in
    let u : Bool = is_guarded s before (letter c ∷ after) in
    let P : ItemTree → Type 0 = λ (v : ItemTree). IsPartIn 2 calls all v in
    let more : List Part = parts_with s (letter c ∷ before) after (owns_in pages i after) in
    each_both P (parts Text (guard_items u)) (parts Text (letter_items e c) ++ more) (simple_parts calls all (parts Text (guard_items u)) (guard_own u))
    (each_both P (parts Text (letter_items e c)) more (simple_parts calls all (parts Text (letter_items e c)) (letter_own e c))
    (signs_parts pages calls all i s (letter c ∷ before) after h g a))
signs_parts pages calls all i s before (thing t ∷ after) h g a =
    let u : Bool = is_guarded s before (thing t ∷ after) in
    let next : ℕ = i + calls_in pages t.source in
    let P : ItemTree → Type 0 = λ (v : ItemTree). IsPartIn 2 calls all v in
    let own : List Part = line_parts (part_items pages i t.source) in
    let more : List Part = parts_with s (thing t ∷ before) after (owns_in pages next after) in
    let both = sources_split calls i (expanded_page pages t.source).outer (written_calls pages after) a in
    let shut = g.0 in
    each_both P (parts Text (guard_items u)) (own ++ more) (simple_parts calls all (parts Text (guard_items u)) (guard_own u))
    (each_both P own more (thing_parts 2 pages calls all i t h.0 shut.0 both.0) (signs_parts pages calls all next s (thing t ∷ before) after h.1 g.1 both.1))

-- ---- the content

pub written_groups : (pages : Pages) (s : Setting) (signs : List ContentSign) → IsWrittenBeside pages s signs → HoldsGroups pages a_paragraph (spelled s signs)
written_groups pages s signs h =
    let c : IsCalledIn pages s signs = h.called in
    let b = content_written pages s signs c.of_block h.read h.parts in
    let items : (i : ℕ) → part_items pages i (spelled s signs) ≡ items_with s [] signs (owns_in pages i signs) =
    λ i. written_gives pages i s signs c h.read h.parts in
    let given : (i : ℕ) → joined_parts (lines (part_items pages i (spelled s signs))) ≡ parts_with s [] signs (owns_in pages i signs) =
    λ i. ap (λ (xs : List Item). joined_parts (lines xs)) (items i) ∙ called_parts s signs (owns_in pages i signs) (called_in pages i s signs c) in
    record {
      parts = λ calls i a.
          let all : List Item = part_items pages i (spelled s signs) in
          subst (ArePartsIn calls all) (sym (given i))
          (signs_parts pages calls all i s [] signs c.given h.shut
          (sources_before calls i (written_calls pages signs) (expanded_page pages (spelled s signs)).outer b.calls_are a));
      groups = λ i.
          subst (λ (ps : List Part). AreGroups (part_items pages i (spelled s signs)) (call_pieces (children ps))) (sym (given i))
          (subst (λ (xs : List Item). AreGroups xs (call_pieces (children (parts_with s [] signs (owns_in pages i signs))))) (sym (items i))
          (groups_from pages (items_with s [] signs (owns_in pages i signs)) i s [] signs c.given (λ j l. refl)));
      shut = λ i. subst AreShutParts (sym (given i)) (parts_shut pages i s [] signs c.given h.shut);
      shut_calls = moved_shut (written_calls pages signs) (expanded_page pages (spelled s signs)).outer b.calls_are (written_shut pages signs c.given h.shut);
    }

pub written_whole : (pages : Pages) (s : Setting) (signs : List ContentSign) → IsWrittenBeside pages s signs → IsWholeIn pages a_paragraph (spelled s signs)
written_whole pages s signs h = inr (written_groups pages s signs h)
