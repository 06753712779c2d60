-- What stands for a tree fits, as that tree, and each of its elements has a source.
use Rattle.std.proofs.Common.{◌≡◌, ℕ, suc, ◌<◌, ◌^◌, Bool, true, false, Option, Some, None, List, [], ◌∷◌, refl, sym, ap, ap₂, ◌∙◌, subst, append-nil, ◌+◌, ◌++◌, arith, codes}
use Rattle.std.specs.Prelude.{Ok, not, ◌||◌, ◌&&◌, if◌then◌else◌}
use Rattle.std.specs.Option.{option_map, option_or}
use Rattle.wt_tree.specs.declared.kind.Kind.{Kind}
use Rattle.wt_tree.specs.declared.kind.Kind.TheVariants as kind
use Rattle.wt_tree.specs.Kinds.{is_leaf, is_section, may_follow, may_hold, texts_of_kind, writing, element_name}
use Rattle.wt_tree.specs.Plain.{Plains}
use Rattle.wt_tree.specs.Tree.{Label, Tree, tree, Trees, none as no_trees, more as one_more}
use Rattle.wt_tree.specs.Tiling.{is_group}
use Rattle.wt_recut.specs.Recut.{is_as_text, shows_block}
use Rattle.wt_tree.specs.declared.row.Texts.{Texts}
use Rattle.wt_tree.specs.declared.row.Texts.TheVariants.{Separators, Page, Bordered, OwnCharacter}
use Rattle.wt_tree.specs.declared.row.Writing.{Writing}
use Rattle.wt_tree.specs.declared.row.Writing.TheVariants.{AsText, AsVoid, RoundCharacter, RoundChildren, AsSection, Unwritten}
use Rattle.wt_schema.specs.Html.{groups, groups_of_all}
use Rattle.wt_html_grammar.specs.Markup.{Pair, Markups, text, node, empty, more, flush}
use Rattle.wt_html_grammar.proofs.Steps.{if_true, if_false}
use Rattle.wt_html_grammar.proofs.Reading.{and_true}
use Rattle.wt_schema.specs.declared.standing.Standing.TheVariants as stands
use Rattle.wt_schema.specs.Attributes.{value_of}
use Rattle.wt_schema.specs.Rows.{holds_text, shows_text}
use Rattle.wt_schema.specs.Data.{is_empty}
use Rattle.wt_schema.specs.Groups.{standing, open_by, is_span, is_none, is_dropped, Piece, single}
use Rattle.wt_schema.specs.Fit.{elements, label_for, texts_in, are_blank, onto_told, held_as, text_fits, within, fit_nodes}
use Rattle.wt_schema.specs.Unsourced.{is_unsourced, lacks_source, unsourced_as, unsourced_nodes}
use Rattle.wt_schema.specs.Sections.{is_section_name}
use Rattle.wt_schema.specs.GroupNodes.{elements_for, group_nodes, all_follow}
use Rattle.wt_schema.specs.Written.{label_read, unranged, unranged_all, leaf_kind, goes_behind, are_ordered, IsCutIn, IsShown, IsElementLabel, IsWrittenGroup, is_childless, NodeIsWritten, WrittenIn, AllWrittenIn}
use Rattle.wt_schema.proofs.Bare.{others_read}
use Rattle.wt_schema.proofs.Said.{about_value, said_of}
use Rattle.wt_schema.proofs.Rows.{is_as_void, is_round_character, IsElementKind, held_kind, held_numbered}
use Rattle.wt_schema.proofs.Order.{pairs}
use Rattle.wt_schema.proofs.Labels.{IsTold, told}
use Rattle.wt_schema.proofs.ShownAgain.{elements_some}
use Rattle.wt_schema.proofs.Tags.{text_before, text_twice}
use Rattle.wt_schema.proofs.GroupItems.{group_markups}
use Rattle.wt_schema.proofs.Elements.{is_written, not_group, Inside, group_number, inside_number, node_for, marked_up, markup_before, markups_of}
use Rattle.wt_schema.proofs.Steps.{spot, node_step, leaf_of, leaf_other, not_dropped, none_open, text_step, none_lacks, Fresh, fresh_fit, group_pieces, ungathered, gathered_again}
use Rattle.wt_schema.proofs.GroupFits.{stands_alone, behind_all, behind_is, group_fit, group_sourced, group_fresh, before_group}
use Rattle.wt_schema.proofs.Merged.{held_read, merged, merged_text, merged_twice, no_children}
use Rattle.wt_schema.proofs.Ordered.{goes_is, group_goes, group_shows, ordered_in, shows_is, text_class, texts_fit}

-- ---- elements

-- an element that shows nothing of its own
nothing_shown : (l : Label) (bs : List ℕ) → shows_text l.kind ≡ false → IsElementLabel l → (if shows_text l.kind then bs else []) ≡ l.shown
nothing_shown l bs e h = if_false (shows_text l.kind) _ _ e ∙ sym (subst (λ b. IsShown b l.shown) e h.shown)

-- the character of an entity
character_in : (bs : List ℕ) → texts_in (flush bs empty) ≡ bs
character_in [] = refl
character_in (b ∷ bs) = append-nil (b ∷ bs)

character_shown : (l : Label) → shows_text l.kind ≡ true → (if shows_text l.kind then texts_in (flush l.shown empty) else []) ≡ l.shown
character_shown l e = if_true (shows_text l.kind) _ _ e ∙ character_in l.shown

shown_held : (k : Kind) → shows_text k ≡ true → holds_text k ≡ true
shown_held kind.Entity e = refl
shown_held k e = absurd cc

character_text : (k : Kind) (m : Markups) → shows_text k ≡ true → text_fits k m ≡ true
character_text k m e = ap (λ b. b || are_blank m) (shown_held k e)

no_node : (n : ℕ) (k : Kind) (bs : List ℕ) → shows_text k ≡ true → fit_nodes n (within k false) (flush bs empty) ≡ Ok []
no_node n k [] e = refl
no_node n k (b ∷ bs) e =
    ap (λ o. onto_told (Ok o) (Ok []))
    (if_false (is_dropped None (b ∷ bs) empty) _ _ (not_dropped (b ∷ bs) empty) ∙ ap (option_map single) (if_true (shows_text k) _ _ e))

-- an element that has no contents
empty_text : (k : Kind) → text_fits k empty ≡ true
empty_text k = by_test (holds_text k)
  where
    by_test : (b : Bool) → (b || true) ≡ true
    by_test true = refl
    by_test false = refl

-- a leaf has no children
leaf_children : (k : Kind) (ts : Trees) → is_leaf k ≡ true → (not (is_leaf k) || is_childless ts) ≡ true → unranged_all ts ≡ no_trees
leaf_children k ts e h = no_children ts (sym (ap (λ b. not b || is_childless ts) e) ∙ h)

void_leaf : (k : Kind) → writing k ≡ AsVoid → is_leaf k ≡ true
void_leaf k e = by_kind k (ap is_as_void e)
  where
    by_kind : (k : Kind) → is_as_void (writing k) ≡ true → is_leaf k ≡ true
    by_kind kind.Rule e = refl
    by_kind kind.Category e = refl
    by_kind kind.Br e = refl
    by_kind kind.Switch e = refl
    by_kind kind.Comment e = refl
    by_kind kind.Include e = refl
    by_kind kind.Skip e = refl
    by_kind k e = absurd cc

character_leaf : (k : Kind) → writing k ≡ RoundCharacter → is_leaf k ≡ true
character_leaf k e = by_kind k (ap is_round_character e)
  where
    by_kind : (k : Kind) → is_round_character (writing k) ≡ true → is_leaf k ≡ true
    by_kind kind.Entity e = refl
    by_kind k e = absurd cc

-- nothing is cut where nothing stands
none_held : (x : Texts) → held_as x no_trees ≡ no_trees
none_held Separators = refl
none_held Page = refl
none_held Bordered = refl
none_held OwnCharacter = refl

-- an element before others
child_fit : (n : ℕ) (parent : Kind) (b : Bool) (l : Label) (ts : Trees) (m rest : Markups) (us vs : Trees) → IsTold l
    → may_hold parent l.kind ≡ true → is_section l.kind ≡ false → may_follow b l.kind ≡ true → is_group l.kind ≡ false
    → (if shows_text l.kind then texts_in m else []) ≡ l.shown → text_fits l.kind m ≡ true
    → fit_nodes (suc n) (within l.kind false) m ≡ Ok (ungathered us) → held_as (texts_of_kind l.kind) us ≡ unranged_all ts
    → ((n : ℕ) → fit_nodes n (spot parent false (b || shows_block (tree l ts)) None) rest ≡ Ok (ungathered vs))
    → fit_nodes n (spot parent false b None) (more (node_for l m) rest) ≡ Ok (ungathered (one_more (unranged (tree l ts)) vs))
child_fit n parent b l ts m rest us vs t h d q o s f i c g =
    let ps : List Pair = pairs (said_of l) in
    let same : label_for l.kind ps t.told (texts_in m) ≡ label_read l = t.label_is (texts_in m) s in
    node_step n (spot parent false b None) stands.Alone l.kind (element_name l.kind) ps t.told m rest (ungathered us) (ungathered vs)
    (stands_alone ps None t.alone) (t.row (held_numbered parent l h d))
    (ap (λ x. x || (false && (is_span l.kind && is_none m))) (and_true _ _ h q)) t.data_is f i
    (λ k. ap (λ x. fit_nodes k (spot parent false (b || x) None) rest) (sym (shows_is l ts o)) ∙ g k)
    ∙ ap₂ (λ x y. Ok (single (tree x y) ∷ ungathered vs)) same (ap (held_as (texts_of_kind l.kind)) (gathered_again us) ∙ c)
    ∙ ap Ok (sym (if_false (is_group l.kind) _ _ o))
    ∙ ap (λ x. Ok (ungathered (one_more x vs))) (sym (others_read l ts o))

-- an element by how it is written, or a group
fit_by : (w : Writing) (k : ℕ) (parent : Kind) (b : Bool) (l : Label) (ts : Trees) (H : Type 0) (m group rest : Markups) (vs : Trees)
    (n : ℕ) → writing l.kind ≡ w → is_as_text w ≡ false
    → NodeIsWritten w k parent l (is_childless ts) H (IsWrittenGroup k parent l ts) → goes_behind b (tree l ts) ≡ true
    → (writing l.kind ≡ RoundChildren → H → text_fits l.kind m ≡ true)
    → (writing l.kind ≡ RoundChildren → H → shows_text l.kind ≡ false → (n : ℕ) → (us : Trees) × (fit_nodes n (within l.kind false) m ≡ Ok (ungathered us))
    × (held_as (texts_of_kind l.kind) us ≡ unranged_all ts))
    → (IsWrittenGroup k parent l ts → all_follow b (elements_for ts) ≡ true
    → fit_nodes n (spot parent false b None) group ≡ Ok (ungathered (one_more (unranged (tree l ts)) vs)))
    → ((n : ℕ) → fit_nodes n (spot parent false (b || shows_block (tree l ts)) None) rest ≡ Ok (ungathered vs))
    → fit_nodes n (spot parent false b None) (marked_up w l m group rest) ≡ Ok (ungathered (one_more (unranged (tree l ts)) vs))
fit_by AsText k parent b l ts H m group rest vs n e a h q f i j g = absurd (cc a)
fit_by AsVoid k parent b l ts H m group rest vs n e a h q f i j g =
    let d : IsElementKind l.kind l.attrs = held_kind parent l h.1 h.2 in
    let o : is_group l.kind ≡ false = not_group l.kind (ap is_written e) in
    let s : shows_text l.kind ≡ false = d.shows ∙ ap is_round_character e in
    let c : unranged_all ts ≡ no_trees = leaf_children l.kind ts (void_leaf l.kind e) h.3 in
    child_fit n parent b l ts empty rest no_trees vs (told l d h.2) h.1 h.2.element (sym (goes_is b l ts o) ∙ q) o (nothing_shown l [] s h.2) (empty_text l.kind) refl
    (none_held (texts_of_kind l.kind) ∙ sym c) g
fit_by RoundCharacter k parent b l ts H m group rest vs n e a h q f i j g =
    let d : IsElementKind l.kind l.attrs = held_kind parent l h.1 h.2 in
    let o : is_group l.kind ≡ false = not_group l.kind (ap is_written e) in
    let s : shows_text l.kind ≡ true = d.shows ∙ ap is_round_character e in
    let c : unranged_all ts ≡ no_trees = leaf_children l.kind ts (character_leaf l.kind e) h.3 in
    let x : Markups = flush l.shown empty in
    child_fit n parent b l ts x rest no_trees vs (told l d h.2) h.1 h.2.element (sym (goes_is b l ts o) ∙ q) o (character_shown l s) (character_text l.kind x s)
    (no_node (suc n) l.kind l.shown s) (none_held (texts_of_kind l.kind) ∙ sym c) g
fit_by RoundChildren k parent b l ts H m group rest vs n e a h q f i j g =
    let d : IsElementKind l.kind l.attrs = held_kind parent l h.1 h.2 in
    let o : is_group l.kind ≡ false = not_group l.kind (ap is_written e) in
    let s : shows_text l.kind ≡ false = d.shows ∙ ap is_round_character e in
    let r = i e h.4 s (suc n) in
    child_fit n parent b l ts m rest r.0 vs (told l d h.2) h.1 h.2.element (sym (goes_is b l ts o) ∙ q) o (nothing_shown l (texts_in m) s h.2) (f e h.4) r.1 r.2 g
fit_by (AsSection i) k parent b l ts H m group rest vs n e a h q f j o g = absurd h
fit_by Unwritten k parent b l ts H m group rest vs n e a h q f i j g = j h (sym (group_goes b l ts h.label.kind) ∙ q)

and_follow : (a b : Bool) → (a && b) ≡ true → (a ≡ true) × (b ≡ true)
and_follow true b e = (refl, e)
and_follow false b e = absurd (cc e)

-- a text alone, before what begins with none
pub text_alone : (n : ℕ) (parent : Kind) (b : Bool) (own : List ℕ) (ms : Markups) (vs : Trees) → shows_text parent ≡ false
    → ((n : ℕ) → fit_nodes n (spot parent false b None) ms ≡ Ok (ungathered vs))
    → fit_nodes n (spot parent false b None) (more (text own) ms) ≡ Ok (ungathered (one_more (leaf_of parent own) vs))
text_alone n parent b own ms vs p g =
    text_step n parent false b own ms (ungathered vs) p g ∙ ap Ok (sym (if_false (is_group (leaf_kind parent)) _ _ (leaf_other parent)))

pub before_none : (own : List ℕ) → is_empty own ≡ false → text_before own empty ≡ more (text own) empty
before_none [] e = absurd (cc e)
before_none (b ∷ bs) e = refl

before_child : (own : List ℕ) (l : Label) (m ms : Markups) → is_empty own ≡ false
    → text_before own (more (node_for l m) ms) ≡ more (text own) (more (node_for l m) ms)
before_child [] l m ms e = absurd (cc e)
before_child (b ∷ bs) l m ms e = refl

some_append : (bs cs : List ℕ) → is_empty bs ≡ false → is_empty (bs ++ cs) ≡ false
some_append [] cs e = absurd (cc e)
some_append (b ∷ bs) cs e = refl

-- what is written of an element or a group begins with no text
pub before_other : (w : Writing) (own : List ℕ) (k : ℕ) (parent : Kind) (l : Label) (childless : Bool) (H : Type 0) (ts : Trees) (i : ℕ) (m ms : Markups)
    → is_as_text w ≡ false → NodeIsWritten w k parent l childless H (IsWrittenGroup k parent l ts) → is_empty own ≡ false
    → text_before own (marked_up w l m (group_markups true i l (elements_for ts) ms) ms)
    ≡ more (text own) (marked_up w l m (group_markups true i l (elements_for ts) ms) ms)
before_other AsText own k parent l childless H ts i m ms a h e = absurd (cc a)
before_other AsVoid own k parent l childless H ts i m ms a h e = before_child own l empty ms e
before_other RoundCharacter own k parent l childless H ts i m ms a h e = before_child own l (flush l.shown empty) ms e
before_other RoundChildren own k parent l childless H ts i m ms a h e = before_child own l m ms e
before_other (AsSection n) own k parent l childless H ts i m ms a h e = absurd h
before_other Unwritten own k parent l childless H ts i m ms a h e = before_group own (elements_for ts) k parent i l ms e (elements_some ts) h.elements

pub text_facts : (w : Writing) (k : ℕ) (parent : Kind) (l : Label) (childless : Bool) (H G : Type 0) → is_as_text w ≡ true
    → NodeIsWritten w k parent l childless H G → is_empty l.own ≡ false
text_facts AsText k parent l childless H G a h = h.0.some
text_facts AsVoid k parent l childless H G a h = absurd (cc a)
text_facts RoundCharacter k parent l childless H G a h = absurd (cc a)
text_facts RoundChildren k parent l childless H G a h = absurd (cc a)
text_facts (AsSection n) k parent l childless H G a h = absurd (cc a)
text_facts Unwritten k parent l childless H G a h = absurd (cc a)

pub text_markup : (w : Writing) (l : Label) (m g ms : Markups) → is_as_text w ≡ true → marked_up w l m g ms ≡ text_before l.own ms
text_markup AsText l m g ms a = refl
text_markup AsVoid l m g ms a = absurd (cc a)
text_markup RoundCharacter l m g ms a = absurd (cc a)
text_markup RoundChildren l m g ms a = absurd (cc a)
text_markup (AsSection n) l m g ms a = absurd (cc a)
text_markup Unwritten l m g ms a = absurd (cc a)

-- a text is no group, and behind a block or not it leaves it so
text_group : (k : Kind) → is_as_text (writing k) ≡ true → is_group k ≡ false
text_group kind.Sep e = refl
text_group kind.Text e = refl
text_group k e = absurd cc

text_order : (b : Bool) (l : Label) (us : Trees) → is_as_text (writing l.kind) ≡ true → (b || shows_block (tree l us)) ≡ b
text_order true l us e = refl
text_order false l us e = shows_is l us (text_group l.kind e) ∙ (text_class l.kind e).1

-- what a node is written as, behind i groups and before these
abbrev markup_of : ℕ → Label → Trees → Markups → Markups
markup_of i l us rest = marked_up (writing l.kind) l (markups_of i us) (group_markups true (suc i) l (elements_for us) rest) rest

-- the one or the other
either_fit : (x : Bool) (n i : ℕ) (parent : Kind) (b : Bool) (l : Label) (us : Trees) (rest : Markups) (vs : Trees) → is_as_text (writing l.kind) ≡ x
    → (is_as_text (writing l.kind) ≡ true → fit_nodes n (spot parent false b None) (text_before l.own rest) ≡ Ok (ungathered (merged_text parent l.own vs)))
    → (is_as_text (writing l.kind) ≡ false → fit_nodes n (spot parent false b None) (markup_of i l us rest)
    ≡ Ok (ungathered (one_more (unranged (tree l us)) vs)))
    → fit_nodes n (spot parent false b None) (markup_of i l us rest)
    ≡ Ok (ungathered (if x then merged_text parent l.own vs else one_more (unranged (tree l us)) vs))
either_fit true n i parent b l us rest vs e f g =
    ap (fit_nodes n (spot parent false b None))
    (text_markup (writing l.kind) l (markups_of i us) (group_markups true (suc i) l (elements_for us) rest) rest e) ∙ f e
either_fit false n i parent b l us rest vs e f g = g e

either_run : (x : Bool) (n i k : ℕ) (parent : Kind) (b : Bool) (own : List ℕ) (l : Label) (us : Trees) (rest : Markups) (vs : Trees)
    → is_as_text (writing l.kind) ≡ x → is_empty own ≡ false → WrittenIn k parent (tree l us) → shows_text parent ≡ false
    → (is_as_text (writing l.kind) ≡ true → fit_nodes n (spot parent false b None) (text_before (own ++ l.own) rest)
    ≡ Ok (ungathered (merged_text parent (own ++ l.own) vs)))
    → (is_as_text (writing l.kind) ≡ false → (m : ℕ) → fit_nodes m (spot parent false b None) (markup_of i l us rest)
    ≡ Ok (ungathered (one_more (unranged (tree l us)) vs)))
    → fit_nodes n (spot parent false b None) (text_before own (markup_of i l us rest))
    ≡ Ok (ungathered (merged_text parent own (if x then merged_text parent l.own vs else one_more (unranged (tree l us)) vs)))
either_run true n i k parent b own l us rest vs e some w p f g =
    ap (fit_nodes n (spot parent false b None))
    (ap (text_before own) (text_markup (writing l.kind) l (markups_of i us) (group_markups true (suc i) l (elements_for us) rest) rest e)
    ∙ text_twice own l.own rest)
    ∙ f e ∙ ap (λ ts. Ok (ungathered ts)) (sym (merged_twice parent own l.own vs))
either_run false n i k parent b own l us rest vs e some w p f g =
    ap (fit_nodes n (spot parent false b None))
    (before_other (writing l.kind) own k parent l (is_childless us) (Inside k l.kind us) us (suc i) (markups_of i us) rest e w some)
    ∙ text_alone n parent b own (markup_of i l us rest) (one_more (unranged (tree l us)) vs) p (g e)
    ∙ ap (λ ts. Ok (ungathered ts)) (sym (if_false (is_as_text (writing l.kind)) _ _ e))

-- a group, before what doesn't belong to it
group_read : (k : ℕ) (parent : Kind) (b : Bool) (l : Label) (us vs : Trees) (rest : Markups) (n i : ℕ) → suc i < 2 ^ 64 → IsWrittenGroup k parent l us
    → all_follow b (elements_for us) ≡ true → Fresh rest
    → ((n : ℕ) → fit_nodes n (spot parent false (b || shows_block (tree l us)) None) rest ≡ Ok (ungathered vs))
    → fit_nodes n (spot parent false b None) (group_markups true (suc i) l (elements_for us) rest) ≡ Ok (ungathered (one_more (unranged (tree l us)) vs))
group_read k parent b l us vs rest n i small h o x g =
    let es : Plains = elements_for us in
    let same : behind_all b es ≡ (b || shows_block (tree l us)) =
    behind_is es k parent b h.elements ∙ ap (λ y. b || y) (h.blocks ∙ sym (group_shows l us h.label.kind)) in
    group_fit es k parent b (suc i) l rest (ungathered vs) small h.label (elements_some us) h.elements o
    (λ m. fresh_fit rest m parent false (behind_all b es) (Some (about_value (suc i))) x
    ∙ ap (λ y. fit_nodes m (spot parent false y None) rest) same ∙ g m) n
    ∙ ap Ok (sym (ap (λ j. tree_pieces_by (is_group j) (is_group j)) h.label.kind))
  where
    tree_pieces_by : Bool → Bool → List Piece
    tree_pieces_by x y =
        if x then group_pieces (label_read l) (if y then group_nodes us else unranged_all us) (ungathered vs)
        else single (tree (label_read l) (if y then group_nodes us else unranged_all us)) ∷ ungathered vs

-- an element or a group, by what stands in it and what follows it
pub other_fit : (k : ℕ) (parent : Kind) (b : Bool) (l : Label) (us vs : Trees) (rest : Markups) (i : ℕ) → is_as_text (writing l.kind) ≡ false
    → WrittenIn k parent (tree l us) → goes_behind b (tree l us) ≡ true → i + groups (tree l us) < 2 ^ 64 → Fresh rest
    → (writing l.kind ≡ RoundChildren → shows_text l.kind ≡ false → AllWrittenIn (suc k) l.kind us → are_ordered false us ≡ true → (m : ℕ)
    → fit_nodes m (within l.kind false) (markups_of i us) ≡ Ok (ungathered (merged l.kind (unranged_all us))))
    → ((m : ℕ) → fit_nodes m (spot parent false (b || shows_block (tree l us)) None) rest ≡ Ok (ungathered vs))
    → (n : ℕ) → fit_nodes n (spot parent false b None) (markup_of i l us rest) ≡ Ok (ungathered (one_more (unranged (tree l us)) vs))
other_fit k parent b l us vs rest i a h q small x f g n =
    fit_by (writing l.kind) k parent b l us (Inside k l.kind us) (markups_of i us) (group_markups true (suc i) l (elements_for us) rest) rest vs n refl a h q
    (λ e j. texts_fit us (suc k) l.kind i j.1)
    (λ e j s m. (
      merged l.kind (unranged_all us),
      f e s j.1 (ordered_in (texts_of_kind l.kind) (suc k) l.kind us refl j.0 j.1) m,
      held_read (texts_of_kind l.kind) (suc k) l.kind us refl j.0 j.1,
    ))
    (λ w o. group_read k parent b l us vs rest n i (group_number i l us small w.label.kind) w o x g)
    g

text_ordered : (b : Bool) (l : Label) (us ts : Trees) → is_as_text (writing l.kind) ≡ true → are_ordered (b || shows_block (tree l us)) ts ≡ true
    → are_ordered b ts ≡ true
text_ordered b l us ts a o = sym (ap (λ x. are_ordered x ts) (text_order b l us a)) ∙ o

-- no element is a further one of a group before it
fresh_text : (own : List ℕ) (ms : Markups) → Fresh ms → Fresh (text_before own ms)
fresh_text [] ms h = h
fresh_text (b ∷ bs) empty h = tt
fresh_text (b ∷ bs) (more (text cs) ms) h = h
fresh_text (b ∷ bs) (more (node name ps c) ms) h = h

fresh_node : (parent : Kind) (l : Label) → may_hold parent l.kind ≡ true → IsElementLabel l → (group : Option (List ℕ))
    → standing group (pairs (said_of l)) ≡ standing None (pairs (said_of l))
fresh_node parent l h e group =
    let t : IsTold l = told l (held_kind parent l h e) e in
    stands_alone (pairs (said_of l)) group t.alone ∙ sym (stands_alone (pairs (said_of l)) None t.alone)

fresh_by : (w : Writing) (k : ℕ) (parent : Kind) (l : Label) (childless : Bool) (H : Type 0) (ts : Trees) (m rest : Markups) (i : ℕ)
    → NodeIsWritten w k parent l childless H (IsWrittenGroup k parent l ts) → (IsWrittenGroup k parent l ts → suc i < 2 ^ 64)
    → Fresh rest → Fresh (marked_up w l m (group_markups true (suc i) l (elements_for ts) rest) rest)
fresh_by AsText k parent l childless H ts m rest i h b x = fresh_text l.own rest x
fresh_by AsVoid k parent l childless H ts m rest i h b x = fresh_node parent l h.1 h.2
fresh_by RoundCharacter k parent l childless H ts m rest i h b x = fresh_node parent l h.1 h.2
fresh_by RoundChildren k parent l childless H ts m rest i h b x = fresh_node parent l h.1 h.2
fresh_by (AsSection n) k parent l childless H ts m rest i h b x = absurd h
fresh_by Unwritten k parent l childless H ts m rest i h b x = group_fresh (elements_for ts) k parent (suc i) l rest (b h) h.label (elements_some ts) h.elements

pub fresh_one : (t : Tree) (k : ℕ) (parent : Kind) (i : ℕ) (rest : Markups) → WrittenIn k parent t → i + groups t < 2 ^ 64 → Fresh rest
    → Fresh (markup_before i t rest)
fresh_one (tree l ts) k parent i rest h b x =
    fresh_by (writing l.kind) k parent l (is_childless ts) (Inside k l.kind ts) ts (markups_of i ts) rest i h (λ g. group_number i l ts b g.label.kind) x

all_fresh : (ts : Trees) (k : ℕ) (parent : Kind) (i : ℕ) → AllWrittenIn k parent ts → i + groups_of_all ts < 2 ^ 64 → Fresh (markups_of i ts)
all_fresh no_trees k parent i h b = tt
all_fresh (one_more t ts) k parent i h b =
    fresh_one t k parent i (markups_of (i + groups t) ts) h.0 (omega (arith, b)) (all_fresh ts k parent (i + groups t) h.2 (omega (arith, b)))

mutual
  -- what stands in a parent of that kind, behind a block or not, and behind i groups
  pub items_fit : (ts : Trees) (k : ℕ) (parent : Kind) (b : Bool) (i : ℕ) → shows_text parent ≡ false → AllWrittenIn k parent ts
      → i + groups_of_all ts < 2 ^ 64 → are_ordered b ts ≡ true → (n : ℕ)
      → fit_nodes n (spot parent false b None) (markups_of i ts) ≡ Ok (ungathered (merged parent (unranged_all ts)))
  items_fit no_trees k parent b i p h s o n = refl
  items_fit (one_more (tree l us) ts) k parent b i p h s o n =
      let j : ℕ = i + groups (tree l us) in
      let rest : Markups = markups_of j ts in
      let here : j < 2 ^ 64 = omega (arith, s) in
      let behind : j + groups_of_all ts < 2 ^ 64 = omega (arith, s) in
      let q = and_follow (goes_behind b (tree l us)) (are_ordered (b || shows_block (tree l us)) ts) o in
      either_fit (is_as_text (writing l.kind)) n i parent b l us rest (merged parent (unranged_all ts)) refl
      (λ a. run_fit ts l.own k parent b j p (text_facts (writing l.kind) k parent l (is_childless us) (Inside k l.kind us) (IsWrittenGroup k parent l us) a h.0)
      h.2 behind (text_ordered b l us ts a q.1) n)
      (λ a. other_fit k parent b l us (merged parent (unranged_all ts)) rest i a h.0 q.0 here (all_fresh ts k parent j h.2 behind)
      (λ e s w c m. items_fit us (suc k) l.kind false i s w (inside_number i l us here e) c m)
      (λ m. items_fit ts k parent (b || shows_block (tree l us)) j p h.2 behind q.1 m) n)

  -- the same behind a text
  run_fit : (ts : Trees) (own : List ℕ) (k : ℕ) (parent : Kind) (b : Bool) (i : ℕ) → shows_text parent ≡ false → is_empty own ≡ false
      → AllWrittenIn k parent ts → i + groups_of_all ts < 2 ^ 64 → are_ordered b ts ≡ true → (n : ℕ)
      → fit_nodes n (spot parent false b None) (text_before own (markups_of i ts)) ≡ Ok (ungathered (merged_text parent own (merged parent (unranged_all ts))))
  run_fit no_trees own k parent b i p e h s o n =
      ap (fit_nodes n (spot parent false b None)) (before_none own e) ∙ text_alone n parent b own empty no_trees p (λ m. refl)
  run_fit (one_more (tree l us) ts) own k parent b i p e h s o n =
      let j : ℕ = i + groups (tree l us) in
      let rest : Markups = markups_of j ts in
      let here : j < 2 ^ 64 = omega (arith, s) in
      let behind : j + groups_of_all ts < 2 ^ 64 = omega (arith, s) in
      let q = and_follow (goes_behind b (tree l us)) (are_ordered (b || shows_block (tree l us)) ts) o in
      either_run (is_as_text (writing l.kind)) n i k parent b own l us rest (merged parent (unranged_all ts)) refl e h.0 p
      (λ a. run_fit ts (own ++ l.own) k parent b j p (some_append own l.own e) h.2 behind (text_ordered b l us ts a q.1) n)
      (λ a m. other_fit k parent b l us (merged parent (unranged_all ts)) rest i a h.0 q.0 here (all_fresh ts k parent j h.2 behind)
      (λ e s w c m. items_fit us (suc k) l.kind false i s w (inside_number i l us here e) c m)
      (λ m. items_fit ts k parent (b || shows_block (tree l us)) j p h.2 behind q.1 m) m)

-- all that a kind holds
pub held_fit : (ts : Trees) (k : ℕ) (parent : Kind) (i : ℕ) → shows_text parent ≡ false → IsCutIn (texts_of_kind parent) ts → AllWrittenIn k parent ts
    → i + groups_of_all ts < 2 ^ 64 → (n : ℕ)
    → (us : Trees) × (fit_nodes n (within parent false) (markups_of i ts) ≡ Ok (ungathered us)) × (held_as (texts_of_kind parent) us ≡ unranged_all ts)
held_fit ts k parent i p c h s n = (
  merged parent (unranged_all ts),
  items_fit ts k parent false i p h s (ordered_in (texts_of_kind parent) k parent ts refl c h) n,
  held_read (texts_of_kind parent) k parent ts refl c h,
)

-- ---- sources

-- a text has no element
texts_sourced : (n : ℕ) (bs : List ℕ) → unsourced_nodes n None (flush bs empty) ≡ None
texts_sourced n [] = refl
texts_sourced n (b ∷ bs) = refl

element_sourced : (parent : Kind) (l : Label) (m rest : Markups) (n : ℕ) → may_hold parent l.kind ≡ true → IsElementLabel l
    → unsourced_nodes (suc n) None m ≡ None → ((n : ℕ) → unsourced_nodes n None rest ≡ None)
    → unsourced_nodes n None (more (node_for l m) rest) ≡ None
element_sourced parent l m rest n h e i g =
    let t : IsTold l = told l (held_kind parent l h e) e in
    let ps : List Pair = pairs (said_of l) in
    let lacks : Bool = lacks_source (element_name l.kind) ps in
    ap (λ s. option_or (unsourced_as s n lacks (unsourced_nodes (suc n) None m))
    (unsourced_nodes (n + elements (node_for l m)) (open_by s None (value_of (codes "about") ps)) rest)) (stands_alone ps None t.alone)
    ∙ ap₂ option_or (if_false lacks _ _ (none_lacks (is_section_name (element_name l.kind)) (is_unsourced ps) t.sourced) ∙ i) (g (n + elements (node_for l m)))

text_sourced : (n : ℕ) (own : List ℕ) (ms : Markups) → ((n : ℕ) → unsourced_nodes n None ms ≡ None) → unsourced_nodes n None (text_before own ms) ≡ None
text_sourced n [] ms g = g n
text_sourced n (b ∷ bs) empty g = refl
text_sourced n (b ∷ bs) (more (text cs) ms) g =
    ap (λ o. option_or None (unsourced_nodes (n + 0) o ms)) (none_open ((b ∷ bs) ++ cs) ms)
    ∙ sym (ap (λ o. option_or None (unsourced_nodes (n + 0) o ms)) (none_open cs ms)) ∙ g n
text_sourced n (b ∷ bs) (more (node name ps c) ms) g =
    ap (λ o. option_or None (unsourced_nodes (n + 0) o (more (node name ps c) ms))) (none_open (b ∷ bs) (more (node name ps c) ms)) ∙ g (n + 0)

sourced_by : (w : Writing) (k : ℕ) (parent : Kind) (l : Label) (childless : Bool) (H G : Type 0) (m group rest : Markups) (n : ℕ) → writing l.kind ≡ w
    → NodeIsWritten w k parent l childless H G → (writing l.kind ≡ RoundChildren → H → (n : ℕ) → unsourced_nodes n None m ≡ None)
    → (G → unsourced_nodes n None group ≡ None) → ((n : ℕ) → unsourced_nodes n None rest ≡ None)
    → unsourced_nodes n None (marked_up w l m group rest) ≡ None
sourced_by AsText k parent l childless H G m group rest n e h i j g = text_sourced n l.own rest g
sourced_by AsVoid k parent l childless H G m group rest n e h i j g = element_sourced parent l empty rest n h.1 h.2 refl g
sourced_by RoundCharacter k parent l childless H G m group rest n e h i j g = element_sourced parent l (flush l.shown empty) rest n h.1 h.2
    (texts_sourced (suc n) l.shown) g
sourced_by RoundChildren k parent l childless H G m group rest n e h i j g = element_sourced parent l m rest n h.1 h.2 (i e h.4 (suc n)) g
sourced_by (AsSection i) k parent l childless H G m group rest n e h j o g = absurd h
sourced_by Unwritten k parent l childless H G m group rest n e h i j g = j h

mutual
  pub item_sourced : (t : Tree) (k : ℕ) (parent : Kind) (rest : Markups) (i n : ℕ) → WrittenIn k parent t → i + groups t < 2 ^ 64 → Fresh rest
      → ((n : ℕ) → unsourced_nodes n None rest ≡ None) → unsourced_nodes n None (markup_before i t rest) ≡ None
  item_sourced (tree l ts) k parent rest i n h s x g =
      sourced_by (writing l.kind) k parent l (is_childless ts) (Inside k l.kind ts) (IsWrittenGroup k parent l ts)
      (markups_of i ts) (group_markups true (suc i) l (elements_for ts) rest) rest n refl h
      (λ e j n. items_sourced ts (suc k) l.kind i n j.1 (inside_number i l ts s e))
      (λ w. group_sourced (elements_for ts) k parent (suc i) l rest (group_number i l ts s w.label.kind) w.label (elements_some ts) w.elements x g n) g

  pub items_sourced : (ts : Trees) (k : ℕ) (parent : Kind) (i n : ℕ) → AllWrittenIn k parent ts → i + groups_of_all ts < 2 ^ 64
      → unsourced_nodes n None (markups_of i ts) ≡ None
  items_sourced no_trees k parent i n h s = refl
  items_sourced (one_more t ts) k parent i n h s =
      item_sourced t k parent (markups_of (i + groups t) ts) i n h.0 (omega (arith, s)) (all_fresh ts k parent (i + groups t) h.2 (omega (arith, s)))
      (λ n. items_sourced ts k parent (i + groups t) n h.2 (omega (arith, s)))
