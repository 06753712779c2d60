-- What is written beside calls and styles can be read by itself.
use Rattle.std.proofs.Common.{◌≡◌, inl, inr, ℕ, suc, ◌+◌, Bool, true, false, not, Option, None, Some, List, [], ◌∷◌, ◌++◌, length, map, ap, refl, subst, sym, ◌||◌, ◌∙◌}
use Rattle.std.specs.Prelude.{◌&&◌}
use Rattle.std.specs.List.{list_all}
use Rattle.wt_span.proofs.RunLaws.{runs_are}
use Rattle.wt_span.specs.Items.{Item, call_of}
use Rattle.wt_span.specs.Origins.{OuterCall}
use Rattle.wt_span.specs.Runs.{AreRuns, IsRun, runs}
use Rattle.wt_tree.specs.Plain.{Plains, along, element, ended, plain_before}
use Rattle.wt_tree.specs.Tiling.{HasNoGroup, NoneIsGroup}
use Rattle.wt_tree.specs.Tree.{Tree, Trees, more, none, tree}
use Rattle.wt_guards.proofs.Escapes.{escapable}
use Rattle.wt_guards.specs.Content.{ContentSign, Thing, letter, thing}
use Rattle.wt_guards.specs.Guards.{Setting, is_guarded, nowiki, spelled}
use Rattle.wt_guards.specs.Letters.{is_escaped}
use Rattle.wt_lines.specs.Lines.{lines}
use Rattle.wt_inline.proofs.HeldLaws.{held_children}
use Rattle.wt_inline.specs.ItemTree.{ItemTree, forest, held_by_all, tree_items}
use Rattle.wt_inline.specs.Parts.{Part, child, children, held_parts, loose, loose_leaf, node, one_leaf, parts}
use Rattle.wt_inline.specs.declared.loose.Loose.TheVariants.{Sep, Text}
use Rattle.wt_context.proofs.PlainNodes.{AreTexts}
use Rattle.wt_context.specs.Line.{line_parts}
use Rattle.wt_annotated.proofs.Calls.{all_split}
use Rattle.wt_annotated.specs.Clean.{is_no_call, is_page}
use Rattle.wt_annotated.specs.CutTexts.{cut_texts}
use Rattle.wt_annotated.specs.Labels.{label_at}
use Rattle.wt_annotated.specs.Numbering.{count, with_numbers}
use Rattle.wt_annotated.specs.WithoutCalls.{placed}
use Rattle.wt_isolation.specs.OpenTags.{any_ends_open, node_ends_open}
use Rattle.wt_selser.specs.GroupFaults.{paragraph_face}
use Rattle.wt_expand.specs.PageCalls.{expanded_page}
use Rattle.wt_expand.specs.Work.{Pages}
use Rattle.wt_part_laws.proofs.GroupsStay.{numbers_gone}
use Rattle.wt_part_laws.proofs.OwnWalks.{walk_own}
use Rattle.wt_part_laws.proofs.Recuts.{texts_same}
use Rattle.wt_part_laws.specs.CallPieces.{AreOwnOrGiven, EachNode, IsOfCall, IsOwnOrGiven, call_pieces}
use Rattle.wt_part_laws.specs.Expanded.{calls_in, part_items}
use Rattle.wt_part_laws.specs.HeldCalls.{HoldsItsCalls, block_in}
use Rattle.wt_part_laws.specs.MovedCalls.{AreMoved}
use Rattle.wt_part_laws.specs.Placeless.{all_placeless, placeless}
use Rattle.wt_part_laws.specs.Rounded.{HasItems, IsOwn}
use Rattle.wt_part_laws.specs.Standing.{standing}
use Rattle.wt_text_edit_laws.proofs.Blocks.Untangled.{open_same}
use Rattle.wt_text_edit_laws.specs.Contents.{content_parts_of}
use Rattle.wt_text_edit_laws.specs.ParagraphParts.{joined_parts, para_with}
use Rattle.wt_text_edit_laws.specs.TextBlocks.{TextBlock, a_paragraph, source_of}
use Rattle.wt_beside_laws.proofs.Groups.CalledBlocks.{each_both, guard_own, letter_own, page_given, some_of_page}
use Rattle.wt_beside_laws.proofs.Made.Items.{PartsHave, children_have}
use Rattle.wt_beside_laws.proofs.PartThings.{nodes_of}
use Rattle.wt_beside_laws.proofs.Styled.SentStyles.{nowiki_alone}
use Rattle.wt_beside_laws.proofs.Styled.StyledNodes.{nowiki_items}
use Rattle.wt_beside_laws.proofs.StyledGroups.Blocks.{styled_called_holds, styled_each, styled_texts}
use Rattle.wt_beside_laws.proofs.StyledGroups.Paragraphs.{styled_called_parts}
use Rattle.wt_beside_laws.proofs.StyledGroups.Shown.{styled_called_shows}
use Rattle.wt_beside_laws.specs.Called.{AreGiven, items_with, owns_in}
use Rattle.wt_beside_laws.specs.Content.{guard_items, letter_items}
use Rattle.wt_beside_laws.specs.Flat.{IsFlat}
use Rattle.wt_beside_laws.specs.Nests.{marks, of_style, style_tree}
use Rattle.wt_beside_laws.specs.NodeItems.{node_items}
use Rattle.wt_beside_laws.specs.Styled.{AreNested, StyledContent, delimiter, finished, mark_source, sign, signs_before, signs_in, signs_past, styled}
use Rattle.wt_beside_laws.specs.StyledCalls.{AreOwnAt, owns_left, owns_past, styled_with}
use Rattle.wt_called_edit_laws.proofs.SettledNodes.{placeless_groupless}
use Rattle.wt_called_edit_laws.proofs.Styles.Lined.{own_calls}
use Rattle.wt_called_edit_laws.proofs.Styles.Put.{put_items, put_outer, put_source}
use Rattle.wt_called_edit_laws.proofs.Styles.Shown.{calls_behind, folder_shown, past_as, shown_as}
use Rattle.wt_called_edit_laws.proofs.Styles.Things.{AreStyledThings, IsStyledThing}
use Rattle.wt_called_edit_laws.proofs.Styles.Written.{IsStyledWritten, all_given, each_behind, flat_put, put_some, styled_gives, styled_in}
use Rattle.wt_called_edit_laws.proofs.Styles.Groups.{groups_styled, last_behind, last_letter, mark_thing}
use Rattle.wt_called_edit_laws.proofs.Whole.PartsIn.{simple_within}
use Rattle.wt_called_edit_laws.proofs.Whole.SourcesAt.{sources_before, sources_split}
use Rattle.wt_called_edit_laws.proofs.Whole.Contents.{AreLastOf, calls_both, last_thing, guard_shut, letter_shut, moved_shut, own_shut, shut_both, thing_calls, thing_parts}
use Rattle.wt_beside_laws.specs.RoundCalls.{AreShutCalls}
use Rattle.wt_called_edit_laws.specs.CalledContents.{tree_round}
use Rattle.wt_called_edit_laws.specs.PartTexts.{AreSourcesAt}
use Rattle.wt_called_edit_laws.specs.WholeContents.{AreGroups, ArePartsIn, AreShutParts, HoldsGroups, IsPartIn, IsWholeIn}
use Rattle.wt_called_edit_laws.specs.Written.{written_calls}
use Rattle.wt_called_edit_laws.specs.WrittenAnew.{HoldsAnywhere}

-- ---- a node of the page is the same node but for its number and place

half : (n : ℕ) (before : List Item) (u : ItemTree) → IsOwn u → placeless (standing n before u) ≡ cut_texts (placeless (placed [] u))
half n before u h =
    texts_same (with_numbers n (placed before u))
    ∙ ap cut_texts
    (numbers_gone n (placed before u) ∙ sym (walk_own [] None 0 None before u h.of_page h.has_items) ∙ walk_own [] None 0 None [] u h.of_page h.has_items)

same_node : (n : ℕ) (before : List Item) (u : ItemTree) → IsOwn u → placeless (standing n before u) ≡ placeless (standing 0 [] u)
same_node n before u h = half n before u h ∙ sym (half 0 [] u h)

mutual
  groupless_back : (t : Tree) → HasNoGroup (placeless t) → HasNoGroup t
  groupless_back (tree l ts) h = (h.0, all_back ts h.1)

  all_back : (ts : Trees) → NoneIsGroup (all_placeless ts) → NoneIsGroup ts
  all_back none h = tt
  all_back (more t ts) h = (groupless_back t h.0, all_back ts h.1)

-- it doesn't end in an open tag and is no group, and it holds none
abbrev IsShutHere : Tree → Type 0
IsShutHere t = (node_ends_open t ≡ false) × HasNoGroup t

moved_shut_node : (n : ℕ) (before : List Item) (u : ItemTree) → IsOwn u → IsShutHere (standing 0 [] u) → IsShutHere (standing n before u)
moved_shut_node n before u h s = (
  sym (open_same (standing n before u)) ∙ ap node_ends_open (same_node n before u h) ∙ open_same (standing 0 [] u) ∙ s.0,
  groupless_back (standing n before u) (subst HasNoGroup (sym (same_node n before u h)) (placeless_groupless (standing 0 [] u) s.1)),
)

-- ---- parts of the page

abbrev AllShut : List Part → Type 0
AllShut [] = Unit {0}
AllShut (loose Text o b ∷ ps) = AllShut ps
AllShut (loose Sep o b ∷ ps) = ⊥
AllShut (node u ∷ ps) = ((n : ℕ) (before : List Item) → IsShutHere (standing n before u)) × AllShut ps

all_shut : (ps : List Part) → PartsHave ps → AreShutParts ps → AllShut ps
all_shut [] h s = tt
all_shut (loose Text o b ∷ ps) h s = all_shut ps h.1 s
all_shut (loose Sep o b ∷ ps) h s = absurd s
all_shut (node u ∷ ps) h s =
    ((λ n before. moved_shut_node n before u (record { of_page = h.0.1; has_items = h.0.0 }) (s.0 h.0.1)), all_shut ps h.1 s.1)

leaf_shut : (xs : List Item) (n : ℕ) (before : List Item) → IsShutHere (standing n before (loose_leaf Text xs))
unfolding label_at
leaf_shut xs n before = (refl, (refl, tt))

past_run : (o : Option ℕ) (b : ℕ) (r others : List Part) → IsRun one_leaf (loose Text o b ∷ r) others → AllShut (r ++ others) → AllShut others
past_run o b [] others run h = h
past_run o b (loose Text i c ∷ r) others run h = past_run i c r others run.1 h
past_run o b (loose Sep i c ∷ r) others run h = absurd h
past_run o b (node x ∷ r) others run h = absurd (let no = run.0 in cc)

abbrev AreShutNodes : Trees → Type 0
AreShutNodes ts = (any_ends_open ts ≡ false) × NoneIsGroup ts

both_shut : (t : Tree) (ts : Trees) → IsShutHere t → AreShutNodes ts → AreShutNodes (more t ts)
both_shut t ts h k = (ap (λ (b : Bool). b || any_ends_open ts) h.0 ∙ k.0, (h.1, k.1))

runs_shut : (rs : List (List Part)) (ps : List Part) (n : ℕ) (before : List Item) → AreRuns one_leaf rs ps → AllShut ps
    → AreShutNodes (nodes_of n before (forest (map child rs)))
runs_shut [] ps n before a h = (refl, tt)
runs_shut ([] ∷ rs) ps n before a h = absurd a.2
runs_shut ((loose Text o b ∷ r) ∷ rs) ps n before a h =
    let u : ItemTree = child (loose Text o b ∷ r) in
    let m : ℕ = count (placed before u) in
    let own : AllShut (r ++ a.0) = subst AllShut a.1 h in
    both_shut (standing n before u) (nodes_of (n + m) (before ++ tree_items u) (forest (map child rs))) (leaf_shut (held_parts (loose Text o b ∷ r)) n before)
    (runs_shut rs a.0 (n + m) (before ++ tree_items u) a.3 (past_run o b r a.0 a.2 own))
runs_shut ((loose Sep o b ∷ r) ∷ rs) ps n before a h = absurd (subst AllShut a.1 h)
runs_shut ((node u ∷ []) ∷ rs) ps n before a h =
    let m : ℕ = count (placed before u) in
    let own : AllShut (node u ∷ a.0) = subst AllShut a.1 h in
    both_shut (standing n before u) (nodes_of (n + m) (before ++ tree_items u) (forest (map child rs))) (own.0 n before)
    (runs_shut rs a.0 (n + m) (before ++ tree_items u) a.3 own.1)
runs_shut ((node u ∷ p ∷ r) ∷ rs) ps n before a h = absurd (let no = a.2.0 in cc)

children_shut : (ps : List Part) (n : ℕ) (before : List Item) → AllShut ps → AreShutNodes (nodes_of n before (forest (children ps)))
unfolding children
children_shut ps n before h = runs_shut (runs one_leaf ps) ps n before (runs_are one_leaf ps) h

-- ---- a style

style_shut : (kind : Bool) (ps : List Part) → AllShut ps → IsShutHere (standing 0 [] (style_tree kind ps))
unfolding label_at
style_shut true ps h = let r = children_shut ps 1 (marks true) h in (r.0, (refl, r.1))
style_shut false ps h = let r = children_shut ps 1 (marks false) h in (r.0, (refl, r.1))

-- ---- the content

nowiki_shut : AreShutParts (line_parts (node_items nowiki))
nowiki_shut = subst AreShutParts (sym (ap line_parts nowiki_items ∙ nowiki_alone)) (guard_shut true)

one_shut : (pages : Pages) (i : ℕ) (x : Thing) → IsStyledThing pages x → IsFlat x.role → AreShutParts (line_parts (part_items pages i x.source))
one_shut pages i x (inl k) f = let own = k.0 in own_shut pages i x own.folder own.shut
one_shut pages i x (inr p) f =
    subst (λ (xs : List Item). AreShutParts (line_parts xs)) (sym (put_items pages i x.source (put_source x p)))
    (subst (λ (bs : List ℕ). AreShutParts (line_parts (node_items bs))) (sym (flat_put x p f)) nowiki_shut)

-- ---- what is of the page in a style

-- if all items of it are the page's, each node in it has some
abbrev HasIfPage : ItemTree → Type 0
HasIfPage t = list_all is_page (tree_items t) ≡ true → HasItems t

no_items : (j : ℕ) (t : ItemTree) → IsOfCall j t → list_all is_page (tree_items t) ≡ true → ⊥
no_items j t g e = none (call_of g.first) g.of_call.0 (ap (list_all is_page) (sym g.is) ∙ e)
  where
    none : (o : Option ℕ) → o ≡ Some j → list_all is_page (g.first ∷ g.others) ≡ true → ⊥
    none o i f = let no : false ≡ true = sym (ap (λ (q : Option ℕ). is_no_call q && list_all is_page g.others) g.of_call.0) ∙ f in cc

simple_has : (qs : List Part) → AreOwnOrGiven qs → EachNode HasIfPage qs
simple_has [] h = tt
simple_has (loose k o b ∷ qs) h = simple_has qs h
simple_has (node t ∷ qs) h = (one h.0, simple_has qs h.1)
  where
    one : IsOwnOrGiven t → HasIfPage t
    one (inl n) = λ e. n.has_items
    one (inr g) = λ e. absurd (no_items g.0 t g.1 e)

parts_have : (qs : List Part) → EachNode HasIfPage qs → AreTexts qs → list_all is_page (held_parts qs) ≡ true → PartsHave qs
parts_have [] h t e = tt
parts_have (loose Text None b ∷ qs) h t e = (refl, parts_have qs h t.1 e)
parts_have (loose Text (Some j) b ∷ qs) h t e = let no : false ≡ true = e in absurd (cc)
parts_have (loose Sep o b ∷ qs) h t e = absurd t.0
parts_have (node u ∷ qs) h t e =
    let r = all_split (tree_items u) (held_parts qs) e in ((h.0 r.0, r.0), parts_have qs h.1 t.1 r.1)

-- what is in a style
inside_page : (kind : Bool) (qs : List Part) → list_all is_page (tree_items (style_tree kind qs)) ≡ true → list_all is_page (held_parts qs) ≡ true
inside_page kind qs e =
    let r = all_split (marks kind) (held_by_all (forest (children qs)) ++ marks kind) e in
    let i = all_split (held_by_all (forest (children qs))) (marks kind) r.1 in
    ap (list_all is_page) (sym (held_children qs)) ∙ i.0

style_has : (kind : Bool) (qs : List Part) → EachNode HasIfPage qs → AreTexts qs → HasIfPage (style_tree kind qs)
style_has true qs h t = λ e. let r = children_have qs (parts_have qs h t (inside_page true qs e)) in (refl, r.0)
style_has false qs h t = λ e. let r = children_have qs (parts_have qs h t (inside_page false qs e)) in (refl, r.0)

styled_shut : (pages : Pages) (i : ℕ) (s : Setting) (bold italic : Bool) (before : List ContentSign) (t : StyledContent) (after : List ContentSign)
    → AreStyledThings pages (signs_before t after) → AreNested bold italic t → AreOwnAt bold italic t (owns_in pages i (signs_before t after))
    → AreShutParts (styled_with false s before t after (owns_in pages i (signs_before t after)))
styled_shut pages i s bold italic before finished after h k o = guard_shut (is_guarded s before after)
styled_shut pages i s bold italic before (sign (letter c) t) after h k o =
    let signs : List ContentSign = signs_before t after in
    let e : Bool = is_escaped s.within s.place before c signs in
    let owns : List (List Item) = owns_in pages i signs in
    let more_parts : List Part = styled_with false s (letter c ∷ before) t after owns in
    shut_both (parts Text (guard_items (is_guarded s before (letter c ∷ signs)))) (parts Text (letter_items e c) ++ more_parts) (guard_shut (is_guarded s before (letter c ∷ signs)))
    (shut_both (parts Text (letter_items e c)) more_parts (letter_shut e c (λ z. escapable s.within s.place before c signs z))
    (styled_shut pages i s bold italic (letter c ∷ before) t after h k.1 o))
styled_shut pages i s bold italic before (sign (thing x) t) after h k o =
    let y : ContentSign = thing x in
    let signs : List ContentSign = signs_before t after in
    let own : List Item = part_items pages i x.source in
    let next : ℕ = i + length (expanded_page pages x.source).outer in
    let more_parts : List Part = styled_with false s (y ∷ before) t after (owns_in pages next signs) in
    shut_both (parts Text (guard_items (is_guarded s before (y ∷ signs)))) (line_parts own ++ more_parts) (guard_shut (is_guarded s before (y ∷ signs)))
    (shut_both (line_parts own) more_parts (one_shut pages i x h.0 k.0) (styled_shut pages next s bold italic (y ∷ before) t after h.1 k.1 o.1))
styled_shut pages i s bold italic before (styled kind opening closing inside t) after h k o =
    let closes : List ContentSign = delimiter kind closing ∷ signs_before t after in
    let first : List ContentSign = delimiter kind opening ∷ before in
    let last : List ContentSign = delimiter kind closing ∷ signs_past inside first in
    let j : ℕ = i + length (expanded_page pages (mark_source kind)).outer in
    let m : ℕ = calls_behind pages j inside + length (expanded_page pages (mark_source kind)).outer in
    let held : List ContentSign = signs_before inside closes in
    let owns : List (List Item) = owns_in pages j held in
    let ps : List Part = styled_with false s first inside closes owns in
    let same : owns_past inside owns ≡ owns_in pages (calls_behind pages j inside) closes = past_as pages j inside closes in
    let qs : List Part = styled_with false s last t after (owns_left (owns_past inside owns)) in
    let shut : AreShutParts ps = styled_shut pages j s (kind || bold) (not kind || italic) first inside closes h.1 k.1 o.0 in
    let given : AreGiven held owns = all_given pages j held h.1 in
    let has : EachNode HasIfPage ps =
    styled_each HasIfPage simple_has (λ u r z e. let no : true ≡ false = sym e ∙ z in absurd (cc)) s (kind || bold) (not kind || italic) first inside closes owns given k.1 o.0 (λ b us g a. style_has b us g a) in
    let texts : AreTexts ps = styled_texts s (kind || bold) (not kind || italic) first inside closes owns given k.1 in
    let out : AreOwnAt bold italic t (owns_in pages m (signs_before t after)) =
    subst (λ (os : List (List Item)). AreOwnAt bold italic t (owns_left os)) same o.1 in
    let later : AreShutParts qs =
    subst (λ (os : List (List Item)). AreShutParts (styled_with false s last t after (owns_left os))) (sym same)
    (styled_shut pages m s bold italic last t after (each_behind pages inside closes h.1).1 k.2 out) in
    shut_both (parts Text (guard_items (is_guarded s before (delimiter kind opening ∷ held)))) (node (style_tree kind ps) ∷ qs)
    (guard_shut (is_guarded s before (delimiter kind opening ∷ held)))
    ((λ e. style_shut kind ps (all_shut ps (parts_have ps has texts (inside_page kind ps e)) shut)), later)

-- ---- what each call gives in a style is a group there, too

-- so many styles may be in one
abbrev depth : Bool → Bool → ℕ
depth true true = 0
depth true false = 1
depth false true = 1
depth false false = 2

one_deeper : (kind bold italic : Bool) → of_style kind bold italic ≡ false → depth bold italic ≡ suc (depth (kind || bold) (not kind || italic))
one_deeper true true italic e = cc
one_deeper true false true e = refl
one_deeper true false false e = refl
one_deeper false true true e = cc
one_deeper false true false e = refl
one_deeper false false true e = cc
one_deeper false false false e = refl

-- the calls of what is behind a style
sources_behind : (pages : Pages) (calls : List OuterCall) (i : ℕ) (t : StyledContent) (after : List ContentSign)
    → AreSourcesAt calls i (written_calls pages (signs_before t after)) → AreSourcesAt calls (calls_behind pages i t) (written_calls pages after)
sources_behind pages calls i finished after a = a
sources_behind pages calls i (sign (letter c) t) after a = sources_behind pages calls i t after a
sources_behind pages calls i (sign (thing x) t) after a =
    let own : List OuterCall = (expanded_page pages x.source).outer in
    let both = sources_split calls i own (written_calls pages (signs_before t after)) a in
    sources_behind pages calls (i + length own) t after both.1
sources_behind pages calls i (styled kind opening closing inside t) after a =
    let mark : List OuterCall = (expanded_page pages (mark_source kind)).outer in
    let signs : List ContentSign = signs_before t after in
    let closes : List ContentSign = delimiter kind closing ∷ signs in
    let j : ℕ = i + length mark in
    let m : ℕ = calls_behind pages j inside + length mark in
    let first = sources_split calls i mark (written_calls pages (signs_before inside closes)) a in
    let last = sources_split calls (calls_behind pages j inside) mark (written_calls pages signs) (sources_behind pages calls j inside closes first.1) in
    sources_behind pages calls m t after last.1

-- a node of the page, or what is put
styled_thing_parts : (n : ℕ) (pages : Pages) (calls : List OuterCall) (all : List Item) (i : ℕ) (x : Thing) → IsStyledThing pages x → IsFlat x.role
    → AreSourcesAt calls i (expanded_page pages x.source).outer → EachNode (IsPartIn n calls all) (line_parts (part_items pages i x.source))
styled_thing_parts n pages calls all i x (inl k) f a =
    let own = k.0 in
    let shut = own.shut in
    thing_parts n pages calls all i x own.folder shut.0 a
styled_thing_parts n pages calls all i x (inr p) f a =
    let ps : List Part = line_parts (part_items pages i x.source) in
    simple_within n calls all ps (page_given ps (some_of_page ps (put_some pages i x p f)))

styled_parts_in : (pages : Pages) (calls : List OuterCall) (all : List Item) (i : ℕ) (s : Setting) (bold italic : Bool) (before : List ContentSign) (t : StyledContent) (after : List ContentSign)
    → AreStyledThings pages (signs_before t after) → AreNested bold italic t → AreOwnAt bold italic t (owns_in pages i (signs_before t after))
    → AreLastOf all i (items_with s before (signs_before t after) (owns_in pages i (signs_before t after)))
    → AreSourcesAt calls i (written_calls pages (signs_before t after))
    → EachNode (IsPartIn (depth bold italic) calls all) (styled_with false s before t after (owns_in pages i (signs_before t after)))
styled_parts_in pages calls all i s bold italic before finished after h k o f y =
    let u : Bool = is_guarded s before after in simple_within (depth bold italic) calls all (parts Text (guard_items u)) (guard_own u)
styled_parts_in pages calls all i s bold italic before (sign (letter c) t) after h k o f y =
    let signs : List ContentSign = signs_before t after in
    let e : Bool = is_escaped s.within s.place before c signs in
    let u : Bool = is_guarded s before (letter c ∷ signs) in
    let P : ItemTree → Type 0 = λ (v : ItemTree). IsPartIn (depth bold italic) calls all v in
    let more_parts : List Part = styled_with false s (letter c ∷ before) t after (owns_in pages i signs) in
    each_both P (parts Text (guard_items u)) (parts Text (letter_items e c) ++ more_parts) (simple_within (depth bold italic) calls all (parts Text (guard_items u)) (guard_own u))
    (each_both P (parts Text (letter_items e c)) more_parts (simple_within (depth bold italic) calls all (parts Text (letter_items e c)) (letter_own e c))
    (styled_parts_in pages calls all i s bold italic (letter c ∷ before) t after h k.1 o
    (last_letter all i c u e (items_with s (letter c ∷ before) signs (owns_in pages i signs)) f) y))
styled_parts_in pages calls all i s bold italic before (sign (thing x) t) after h k o f y =
    let signs : List ContentSign = signs_before t after in
    let u : Bool = is_guarded s before (thing x ∷ signs) in
    let P : ItemTree → Type 0 = λ (v : ItemTree). IsPartIn (depth bold italic) calls all v in
    let next : ℕ = i + calls_in pages x.source in
    let own : List Part = line_parts (part_items pages i x.source) in
    let more_parts : List Part = styled_with false s (thing x ∷ before) t after (owns_in pages next signs) in
    let both = sources_split calls i (expanded_page pages x.source).outer (written_calls pages signs) y in
    each_both P (parts Text (guard_items u)) (own ++ more_parts) (simple_within (depth bold italic) calls all (parts Text (guard_items u)) (guard_own u))
    (each_both P own more_parts (styled_thing_parts (depth bold italic) pages calls all i x h.0 k.0 both.0)
    (styled_parts_in pages calls all next s bold italic (thing x ∷ before) t after h.1 k.1 o.1
    (last_thing pages all i x u (items_with s (thing x ∷ before) signs (owns_in pages next signs)) f) both.1))
styled_parts_in pages calls all i s bold italic before (styled kind opening closing inside t) after h k o f y =
    let first : List ContentSign = delimiter kind opening ∷ before in
    let past : List ContentSign = signs_past inside first in
    let last : List ContentSign = delimiter kind closing ∷ past in
    let signs : List ContentSign = signs_before t after in
    let closes : List ContentSign = delimiter kind closing ∷ signs in
    let held : List ContentSign = signs_before inside closes in
    let j : ℕ = i + calls_in pages (mark_source kind) in
    let n : ℕ = calls_behind pages j inside in
    let m : ℕ = n + calls_in pages (mark_source kind) in
    let u : Bool = is_guarded s before (delimiter kind opening ∷ held) in
    let P : ItemTree → Type 0 = λ (v : ItemTree). IsPartIn (depth bold italic) calls all v in
    let a : AreLastOf all j (items_with s first held (owns_in pages j held)) =
    last_thing pages all i (mark_thing kind opening) u (items_with s first held (owns_in pages j held)) f in
    let b : AreLastOf all n (items_with s past closes (owns_in pages n closes)) = last_behind pages all j s first inside closes a in
    let c : AreLastOf all m (items_with s last signs (owns_in pages m signs)) =
    last_thing pages all n (mark_thing kind closing) (is_guarded s past closes) (items_with s last signs (owns_in pages m signs)) b in
    let owns : List (List Item) = owns_in pages j held in
    let same : owns_past inside owns ≡ owns_in pages n closes = past_as pages j inside closes in
    let ps : List Part = styled_with false s first inside closes owns in
    let qs : List Part = styled_with false s last t after (owns_left (owns_past inside owns)) in
    let out : AreOwnAt bold italic t (owns_in pages m signs) = subst (λ (os : List (List Item)). AreOwnAt bold italic t (owns_left os)) same o.1 in
    let mark : List OuterCall = (expanded_page pages (mark_source kind)).outer in
    let first_calls = sources_split calls i mark (written_calls pages held) y in
    let last_calls = sources_split calls n mark (written_calls pages signs) (sources_behind pages calls j inside closes first_calls.1) in
    let inner_parts : EachNode (IsPartIn (depth (kind || bold) (not kind || italic)) calls all) ps =
    styled_parts_in pages calls all j s (kind || bold) (not kind || italic) first inside closes h.1 k.1 o.0 a first_calls.1 in
    let style : IsPartIn (depth bold italic) calls all (style_tree kind ps) =
    subst (λ (d : ℕ). IsPartIn d calls all (style_tree kind ps)) (sym (one_deeper kind bold italic k.0)) (inr (
      kind,
      ps,
      refl,
      inner_parts,
      groups_styled pages all j s (kind || bold) (not kind || italic) first inside closes h.1 k.1 o.0 a,
      styled_shut pages j s (kind || bold) (not kind || italic) first inside closes h.1 k.1 o.0,
    )) in
    let later : EachNode P qs =
    subst (λ (os : List (List Item)). EachNode P (styled_with false s last t after (owns_left os))) (sym same)
    (styled_parts_in pages calls all m s bold italic last t after (each_behind pages inside closes h.1).1 k.2 out c last_calls.1) in
    each_both P (parts Text (guard_items u)) (node (style_tree kind ps) ∷ qs) (simple_within (depth bold italic) calls all (parts Text (guard_items u)) (guard_own u)) (style, later)

-- ---- the calls of a node

shut_things : (pages : Pages) (signs : List ContentSign) → AreStyledThings pages signs → AreShutCalls (written_calls pages signs)
shut_things pages [] h = tt
shut_things pages (letter c ∷ after) h = shut_things pages after h
shut_things pages (thing x ∷ after) h = calls_both (expanded_page pages x.source).outer (written_calls pages after) (one_calls h.0) (shut_things pages after h.1)
  where
    one_calls : IsStyledThing pages x → AreShutCalls (expanded_page pages x.source).outer
    one_calls (inl k) = let own = k.0 in let s = own.shut in thing_calls pages x own.folder s.0
    one_calls (inr p) = subst AreShutCalls (sym (put_outer pages x.source (put_source x p))) tt

-- ---- the content

-- whatever block it is in
pub groups_of : (pages : Pages) (k : TextBlock) (s : Setting) (t : StyledContent) → AreStyledThings pages (signs_in t) → AreNested false false t
    → ((i : ℕ) → AreOwnAt false false t (owns_in pages i (signs_in t)))
    → ((i : ℕ) → part_items pages i (spelled s (signs_in t)) ≡ items_with s [] (signs_in t) (owns_in pages i (signs_in t)))
    → ((i : ℕ) → content_parts_of k (part_items pages i (spelled s (signs_in t))) ≡ styled_with false s [] t [] (owns_in pages i (signs_in t)))
    → AreMoved (written_calls pages (signs_in t)) (expanded_page pages (source_of k (spelled s (signs_in t)))).outer → HoldsGroups pages k (spelled s (signs_in t))
groups_of pages k s t h n own items given calls =
    let signs : List ContentSign = signs_in t in
    let q : List ℕ = spelled s signs in
    record {
      parts = λ cs i a.
          subst (ArePartsIn cs (part_items pages i q)) (sym (given i))
          (subst (λ (xs : List Item). ArePartsIn cs xs (styled_with false s [] t [] (owns_in pages i signs))) (sym (items i))
          (styled_parts_in pages cs (items_with s [] signs (owns_in pages i signs)) i s false false [] t [] h n (own i) (λ j l. refl)
          (sources_before cs i (written_calls pages signs) (expanded_page pages (source_of k q)).outer calls a)));
      groups = λ i.
          subst (λ (ps : List Part). AreGroups (part_items pages i q) (call_pieces (children ps))) (sym (given i))
          (subst (λ (xs : List Item). AreGroups xs (call_pieces (children (styled_with false s [] t [] (owns_in pages i signs))))) (sym (items i))
          (groups_styled pages (items_with s [] signs (owns_in pages i signs)) i s false false [] t [] h n (own i) (λ j l. refl)));
      shut = λ i. subst AreShutParts (sym (given i)) (styled_shut pages i s false false [] t [] h n (own i));
      shut_calls = moved_shut (written_calls pages signs) (expanded_page pages (source_of k q)).outer calls (shut_things pages signs h);
    }

styled_groups : (pages : Pages) (s : Setting) (t : StyledContent) → IsStyledWritten pages s t → HoldsGroups pages a_paragraph (spelled s (signs_in t))
styled_groups pages s t h =
    let signs : List ContentSign = signs_in t in
    let b = own_calls pages s t h in
    let given : (i : ℕ) → joined_parts (lines (part_items pages i (spelled s signs))) ≡ styled_with false s [] t [] (owns_in pages i signs) =
    λ i. ap (λ (xs : List Item). joined_parts (lines xs)) (styled_gives pages i s t h) ∙ styled_called_parts s t (owns_in pages i signs) (styled_in pages i s t h) in
    groups_of pages a_paragraph s t h.each h.nested (λ i. let own = styled_in pages i s t h in own.own) (λ i. styled_gives pages i s t h) given b.calls_are

pub styled_whole : (pages : Pages) (s : Setting) (t : StyledContent) → IsStyledWritten pages s t → IsWholeIn pages a_paragraph (spelled s (signs_in t))
styled_whole pages s t h = inr (styled_groups pages s t h)

-- ---- and holds its calls, and shows what was sent

pub styled_anywhere : (pages : Pages) (s : Setting) (t : StyledContent) → IsStyledWritten pages s t → HoldsAnywhere pages a_paragraph (spelled s (signs_in t))
styled_anywhere pages s t h = λ i.
    subst (λ (xs : List Item). HoldsItsCalls (para_with (joined_parts (lines xs)))) (sym (styled_gives pages i s t h))
    (styled_called_holds s t (owns_in pages i (signs_in t)) (styled_in pages i s t h))

pub styled_shows : (pages : Pages) (calls : List OuterCall) (i : ℕ) (s : Setting) (t : StyledContent) (rest : Plains) → IsStyledWritten pages s t
    → plain_before (cut_texts (block_in calls (tree_round a_paragraph (part_items pages i (spelled s (signs_in t)))))) rest
    ≡ along (element paragraph_face (folder_shown pages i t ended)) rest
styled_shows pages calls i s t rest h =
    ap (λ (xs : List Item). plain_before (cut_texts (block_in calls (para_with (joined_parts (lines xs))))) rest) (styled_gives pages i s t h)
    ∙ styled_called_shows calls s t (owns_in pages i (signs_in t)) rest (styled_in pages i s t h)
    ∙ ap (λ (qs : Plains). along (element paragraph_face qs) rest) (shown_as pages i t [] ended)
