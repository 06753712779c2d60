-- A paragraph of texts beside calls holds these: each is a group in it, and the letters are the page's own.
use Rattle.std.proofs.Common.{arith, ◌≡◌, ℕ, ◌<◌, Bool, true, false, List, [], ◌∷◌, ◌++◌, length, inl, inr, refl, sym, ap, ◌∙◌, subst, append-nil}
use Rattle.std.specs.Prelude.{◌||◌, encode_utf8}
use Rattle.std.specs.List.{list_all, list_any}
use Rattle.std.proofs.lemmas.List.Folds.{list_any-append}
use Rattle.wt_names.proofs.Ascii.{encode_some}
use Rattle.wt_tree.specs.declared.kind.Kind.TheVariants as kind
use Rattle.wt_span.specs.Items.{Item, char, whole}
use Rattle.wt_span.specs.Origins.{OuterCall}
use Rattle.wt_guards.specs.Content.{ContentSign, letter, thing}
use Rattle.wt_guards.specs.Guards.{Setting, is_guarded}
use Rattle.wt_guards.specs.Letters.{is_escaped}
use Rattle.wt_lines.specs.Lines.{lines}
use Rattle.wt_inline.specs.declared.loose.Loose.TheVariants.{Text, Sep}
use Rattle.wt_inline.specs.ItemTree.{plain, ItemTree, forest, tree_items, held_by_all}
use Rattle.wt_inline.specs.Parts.{Part, loose, node, held_parts, parts, children}
use Rattle.wt_inline.proofs.HeldLaws.{held_children, held_append}
use Rattle.wt_context.specs.Line.{line_parts}
use Rattle.wt_annotated.specs.Clean.{is_no_call, is_page}
use Rattle.wt_part_laws.specs.CallPieces.{IsPieceNode, EachNode, ArePieceNodes, AreOwnOrGiven}
use Rattle.wt_part_laws.specs.HeldCalls.{block_in, HoldsItsCalls, IsRoundGiven, block_of_pieces}
use Rattle.wt_part_laws.proofs.CallPieces.{as_pieces, round_some}
use Rattle.wt_part_laws.proofs.HeldBlocks.{given_hold, given_block_is}
use Rattle.wt_part_laws.proofs.OwnWalks.{has_page}
use Rattle.wt_text_edit_laws.specs.LonePages.{page_chars}
use Rattle.wt_text_edit_laws.specs.ParagraphParts.{joined_parts, para_with}
use Rattle.wt_beside_laws.specs.Called.{items_with, parts_with, ArePageParts, AreSomeOfPage, AreOwnInside, IsCalledContent}
use Rattle.wt_beside_laws.specs.Content.{guard_items, letter_items}
use Rattle.wt_beside_laws.specs.RoundCalls.{IsRoundDeep, IsRoundCalls}
use Rattle.wt_beside_laws.proofs.Made.Items.{PartsHave, guard_has, letter_has}
use Rattle.wt_beside_laws.proofs.Groups.CalledParagraphs.{called_parts}
use Rattle.wt_beside_laws.proofs.Groups.GivenNodes.{IsShownAlike, as_shown}
use Rattle.wt_beside_laws.proofs.Groups.RoundNodes.{deep_round, round_alike}

-- ---- its parts

page_parts : (xs : List Item) → PartsHave (parts Text xs) → ArePageParts (parts Text xs)
page_parts [] h = tt
page_parts (char o b ∷ xs) h = (h.0, page_parts xs h.1)
page_parts (whole f o bs ∷ xs) h = (record { of_page = h.0.1; has_items = h.0.0 }, page_parts xs h.1)

pub guard_parts : (u : Bool) → ArePageParts (parts Text (guard_items u))
guard_parts u = page_parts (guard_items u) (guard_has u)

pub letter_parts : (e : Bool) (c : ℕ) → ArePageParts (parts Text (letter_items e c))
letter_parts e c = page_parts (letter_items e c) (letter_has e c)

pub page_given : (ps : List Part) → ArePageParts ps → AreOwnOrGiven ps
page_given [] h = tt
page_given (loose Text o b ∷ ps) h = page_given ps h.1
page_given (loose Sep o b ∷ ps) h = absurd h
page_given (node t ∷ ps) h = (inl h.0, page_given ps h.1)

pub given_both : (ps qs : List Part) → AreOwnOrGiven ps → AreOwnOrGiven qs → AreOwnOrGiven (ps ++ qs)
given_both [] qs h k = k
given_both (loose k o b ∷ ps) qs h g = given_both ps qs h g
given_both (node t ∷ ps) qs h k = (h.0, given_both ps qs h.1 k)

pub guard_own : (u : Bool) → AreOwnOrGiven (parts Text (guard_items u))
guard_own u = page_given (parts Text (guard_items u)) (guard_parts u)

pub letter_own : (e : Bool) (c : ℕ) → AreOwnOrGiven (parts Text (letter_items e c))
letter_own e c = page_given (parts Text (letter_items e c)) (letter_parts e c)

pub each_both : (P : ItemTree → Type 0) (ps qs : List Part) → EachNode P ps → EachNode P qs → EachNode P (ps ++ qs)
each_both P [] qs h k = k
each_both P (loose j o b ∷ ps) qs h k = each_both P ps qs h k
each_both P (node t ∷ ps) qs h k = (h.0, each_both P ps qs h.1 k)

-- it holds of each node of the page round calls
abbrev pub OfRound : (ItemTree → Type 0) → Type 0
OfRound P = (u : ItemTree) → IsRoundDeep u → list_all is_page (tree_items u) ≡ false → P u

pub round_each : (P : ItemTree → Type 0) → OfRound P → (own : List Item) → IsRoundCalls own → EachNode P (line_parts own)
round_each P w own r = subst (EachNode P) (sym r.is) (w r.tree r.deep r.called, tt)

-- what holds of nodes of the page and of calls, and of nodes round calls, holds of each of its nodes
pub parts_each : (P : ItemTree → Type 0) → ((qs : List Part) → AreOwnOrGiven qs → EachNode P qs) → OfRound P → (s : Setting)
    (before signs : List ContentSign) (owns : List (List Item)) → AreOwnInside owns → EachNode P (parts_with s before signs owns)
parts_each P f w s before [] owns h = let u : Bool = is_guarded s before [] in f (parts Text (guard_items u)) (guard_own u)
parts_each P f w s before (letter c ∷ after) owns h =
    let e : Bool = is_escaped s.within s.place before c after in
    let u : Bool = is_guarded s before (letter c ∷ after) in
    let more : List Part = parts_with s (letter c ∷ before) after owns in
    each_both P (parts Text (guard_items u)) (parts Text (letter_items e c) ++ more) (f (parts Text (guard_items u)) (guard_own u))
    (each_both P (parts Text (letter_items e c)) more (f (parts Text (letter_items e c)) (letter_own e c)) (parts_each P f w s (letter c ∷ before) after owns h))
parts_each P f w s before (thing t ∷ after) [] h =
    let u : Bool = is_guarded s before (thing t ∷ after) in f (parts Text (guard_items u)) (guard_own u)
parts_each P f w s before (thing t ∷ after) (own ∷ owns) h =
    let u : Bool = is_guarded s before (thing t ∷ after) in
    let more : List Part = parts_with s (thing t ∷ before) after owns in
    let here : EachNode P (line_parts own) = elim h.0 [
      | inl g ↦ f (line_parts own) g
      | inr r ↦ round_each P w own r
    ] in
    each_both P (parts Text (guard_items u)) (line_parts own ++ more) (f (parts Text (guard_items u)) (guard_own u))
    (each_both P (line_parts own) more here (parts_each P f w s (thing t ∷ before) after owns h.1))

pub called_pieces : (s : Setting) (before signs : List ContentSign) (owns : List (List Item)) → AreOwnInside owns → ArePieceNodes (parts_with s before signs owns)
called_pieces s before signs owns h = parts_each IsPieceNode (λ qs g. as_pieces qs g) (λ u r e. inr (deep_round u r)) s before signs owns h

pub parts_alike : (calls : List OuterCall) (s : Setting) (before signs : List ContentSign) (owns : List (List Item)) → AreOwnInside owns
    → EachNode (IsShownAlike calls) (parts_with s before signs owns)
parts_alike calls s before signs owns h =
    parts_each (IsShownAlike calls) (λ qs g. as_shown calls qs g) (λ u r e. inr (deep_round u r, round_alike calls u r)) s before signs owns h

-- ---- a letter is the page's own

pub any_left : (xs ys : List Item) → list_any is_page xs ≡ true → list_any is_page (xs ++ ys) ≡ true
any_left xs ys e = list_any-append is_page xs ys ∙ ap (λ (v : Bool). v || list_any is_page ys) e

any_right : (xs ys : List Item) → list_any is_page ys ≡ true → list_any is_page (xs ++ ys) ≡ true
any_right xs ys e = list_any-append is_page xs ys ∙ ap (λ (v : Bool). list_any is_page xs || v) e ∙ or_true (list_any is_page xs)
  where
    or_true : (v : Bool) → (v || true) ≡ true
    or_true true = refl
    or_true false = refl

pub held_left : (ps qs : List Part) → list_any is_page (held_parts ps) ≡ true → list_any is_page (held_parts (ps ++ qs)) ≡ true
held_left ps qs e = ap (list_any is_page) (held_append ps qs) ∙ any_left (held_parts ps) (held_parts qs) e

pub held_right : (ps qs : List Part) → list_any is_page (held_parts qs) ≡ true → list_any is_page (held_parts (ps ++ qs)) ≡ true
held_right ps qs e = ap (list_any is_page) (held_append ps qs) ∙ any_right (held_parts ps) (held_parts qs) e

pub some_letter : (e : Bool) (c : ℕ) → list_any is_page (held_parts (parts Text (letter_items e c))) ≡ true
some_letter true c = refl
some_letter false c = by (encode_utf8 c) (encode_some c)
  where
    by : (bs : List ℕ) → 0 < length bs → list_any is_page (held_parts (parts Text (page_chars bs))) ≡ true
    by [] some = absurd (omega (arith, some))
    by (b ∷ bs) some = refl

-- and so is what is of the page
pub some_of_page : (ps : List Part) → AreSomeOfPage ps → ArePageParts ps
some_of_page [] h = absurd h
some_of_page (p ∷ ps) h = h

or_first : (v w : Bool) → v ≡ true → (v || w) ≡ true
or_first true w e = refl
or_first false w e = cc

pub some_page : (ps : List Part) → AreSomeOfPage ps → list_any is_page (held_parts ps) ≡ true
some_page [] h = absurd h
some_page (loose Text o b ∷ ps) h = or_first (is_no_call o) (list_any is_page (held_parts ps)) (ap is_no_call h.0)
some_page (loose Sep o b ∷ ps) h = absurd h
some_page (node t ∷ ps) h = let own = h.0 in any_left (tree_items t) (held_parts ps) (has_page t own.has_items)

-- and so are the delimiters of a node round calls
pub some_round : (own : List Item) → IsRoundCalls own → list_any is_page (held_parts (line_parts own)) ≡ true
some_round own r =
    subst (λ (ps : List Part). list_any is_page (held_parts ps) ≡ true) (sym r.is)
    (any_left (tree_items r.tree) [] (round_some r.tree (deep_round r.tree r.deep)))

-- and so is `<nowiki/>`
pub some_guard : (u : Bool) → u ≡ true → list_any is_page (held_parts (parts Text (guard_items u))) ≡ true
some_guard true e = some_page (parts Text (guard_items true)) (guard_parts true)
some_guard false e = absurd (cc)

-- ---- the paragraph

pub para_items : (ps : List Part) → tree_items (para_with ps) ≡ held_parts ps
para_items ps = append-nil (held_by_all (forest (children ps))) ∙ held_children ps

pub called_round : (s : Setting) (signs : List ContentSign) (owns : List (List Item)) → IsCalledContent s signs owns
    → IsRoundGiven (plain kind.Para) [] (parts_with s [] signs owns) []
called_round s signs owns h =
    let ps : List Part = parts_with s [] signs owns in
    record {
      no_leaf = refl;
      own_opening = refl;
      own_closing = refl;
      parts = called_pieces s [] signs owns h.own;
      some = ap (list_any is_page) (para_items ps) ∙ h.some;
    }

pub called_holds : (s : Setting) (signs : List ContentSign) (owns : List (List Item)) → IsCalledContent s signs owns
    → HoldsItsCalls (para_with (joined_parts (lines (items_with s [] signs owns))))
called_holds s signs owns h =
    subst (λ (ps : List Part). HoldsItsCalls (para_with ps)) (sym (called_parts s signs owns h))
    (given_hold (plain kind.Para) [] (parts_with s [] signs owns) [] (called_round s signs owns h))

pub called_block : (calls : List OuterCall) (s : Setting) (signs : List ContentSign) (owns : List (List Item)) → IsCalledContent s signs owns
    → block_in calls (para_with (joined_parts (lines (items_with s [] signs owns)))) ≡ block_of_pieces calls (plain kind.Para) [] (parts_with s [] signs owns) []
called_block calls s signs owns h =
    ap (λ (ps : List Part). block_in calls (para_with ps)) (called_parts s signs owns h)
    ∙ given_block_is calls (plain kind.Para) [] (parts_with s [] signs owns) [] (called_round s signs owns h)
