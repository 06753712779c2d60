-- The elements of a group fit, as one node.
use Rattle.std.proofs.Common.{◌≡◌, ℕ, suc, ◌+◌, ◌<◌, ◌^◌, Bool, true, false, Option, Some, None, List, [], ◌∷◌, refl, sym, ap, ap₂, ◌∙◌, codes}
use Rattle.std.specs.Prelude.{Ok, ◌||◌, ◌&&◌, if◌then◌else◌}
use Rattle.std.specs.Str.{bytes_eq}
use Rattle.std.specs.Option.{option_or}
use Rattle.std.proofs.lemmas.Slice.Eq.{bytes_eq-Decides}
use Rattle.wt_tree.specs.declared.kind.Kind.{Kind}
use Rattle.wt_tree.specs.declared.kind.Kind.TheVariants as kind
use Rattle.wt_tree.specs.Kinds.{is_block, may_hold, may_follow, element_name}
use Rattle.wt_tree.specs.Plain.{Face, text as characters, element as face_of, Plains, ended, along}
use Rattle.wt_tree.specs.Leaves.{leaf_label}
use Rattle.wt_recut.specs.Recut.{any_shows_block}
use Rattle.wt_tree.specs.Tiling.{is_group}
use Rattle.wt_tree.specs.Tree.{Label, tree, none as no_trees}
use Rattle.wt_schema.specs.Html.{face_attributes}
use Rattle.wt_html_grammar.specs.Markup.{Pair, Markups, text, node, more}
use Rattle.wt_html_grammar.proofs.Steps.{if_false}
use Rattle.wt_schema.specs.declared.standing.Standing.TheVariants as stands
use Rattle.wt_schema.specs.Attributes.{value_of, has}
use Rattle.wt_schema.specs.Rows.{row, holds_text, shows_text}
use Rattle.wt_schema.specs.Data.{is_empty, no_data}
use Rattle.wt_schema.specs.Groups.{standing, standing_by, open_by, is_span, is_none, Piece, single, begun, further, gathered}
use Rattle.wt_schema.specs.Fit.{elements, texts_in, are_blank, label_for, text_fits, fit_nodes}
use Rattle.wt_schema.specs.Sections.{is_section_name}
use Rattle.wt_schema.specs.Unsourced.{is_unsourced, lacks_source, unsourced_as, unsourced_nodes}
use Rattle.wt_schema.specs.GroupNodes.{element_label, inner_node, inner_nodes, is_ended, is_empty_span, is_block_face, in_order, all_follow}
use Rattle.wt_schema.specs.Written.{label_read, shown_of, begins_with_characters, PlainIn, PlainsIn, TopsIn, IsGroupLabel}
use Rattle.wt_schema.proofs.Said.{about_value, face_said, next_said, first_said}
use Rattle.wt_schema.proofs.Order.{pairs}
use Rattle.wt_schema.proofs.Tags.{text_before}
use Rattle.wt_schema.proofs.Firsts.{first_told}
use Rattle.wt_schema.proofs.GroupItems.{plains_markups, group_markups, inner_told, top_told}
use Rattle.wt_schema.proofs.Steps.{spot, node_step, leaf_of, text_step, none_lacks, Fresh, fresh_sourced, further_pieces, group_pieces, singles, gathered_singles}

and_both : (a b : Bool) → (a && b) ≡ true → (a ≡ true) × (b ≡ true)
and_both true b e = (refl, e)
and_both false b e = absurd (cc e)

and_is : (a b : Bool) → a ≡ true → b ≡ true → (a && b) ≡ true
and_is true b e f = f
and_is false b e f = absurd (cc e)

or_same : (b : Bool) → (b || false) ≡ b
or_same true = refl
or_same false = refl

-- ---- texts

text_blank : (bs : List ℕ) (k : ℕ) (parent : Kind) (rest : Markups) → holds_text parent ≡ false → PlainIn k parent (characters bs)
    → are_blank (text_before bs rest) ≡ true
text_blank bs k parent rest e h = absurd (cc (sym e ∙ h.0))

all_blank : (ps : Plains) (k : ℕ) (parent : Kind) → holds_text parent ≡ false → PlainsIn k parent ps → are_blank (plains_markups ps) ≡ true
all_blank ended k parent e h = refl
all_blank (along (characters bs) ps) k parent e h = text_blank bs k parent (plains_markups ps) e h.0
all_blank (along (face_of f qs) ps) k parent e h = all_blank ps k parent e h.2

plains_fit_texts : (ps : Plains) (k : ℕ) (parent : Kind) → PlainsIn k parent ps → text_fits parent (plains_markups ps) ≡ true
plains_fit_texts ps k parent h = by_test (holds_text parent) refl
  where
    by_test : (b : Bool) → holds_text parent ≡ b → (b || are_blank (plains_markups ps)) ≡ true
    by_test true e = refl
    by_test false e = all_blank ps k parent e h

-- a text in a group is one of the page
text_node_is : (parent : Kind) (bs : List ℕ) → holds_text parent ≡ true → leaf_of parent bs ≡ inner_node (characters bs)
text_node_is parent bs e = ap (λ b. tree (leaf_label (if b then kind.Text else kind.Sep) None bs (shown_of (if b then kind.Text else kind.Sep) bs)) no_trees) e

no_join : (bs : List ℕ) (ps : Plains) → is_empty bs ≡ false → begins_with_characters ps ≡ false
    → text_before bs (plains_markups ps) ≡ more (text bs) (plains_markups ps)
no_join [] ps e f = absurd (cc e)
no_join (b ∷ bs) ended e f = refl
no_join (b ∷ bs) (along (characters cs) ps) e f = absurd (cc f)
no_join (b ∷ bs) (along (face_of g qs) ps) e f = refl

-- ---- inside the elements of a group

pub stands_alone : (ps : List Pair) (group : Option (List ℕ)) → value_of (codes "about") ps ≡ None → standing group ps ≡ stands.Alone
stands_alone ps group e = ap (λ o. standing_by group o (has (codes "data-mw") ps)) e

inner_piece : (f : Face) (qs : Plains) (ps : List Pair) (bs : List ℕ) → label_for f.kind ps no_data bs ≡ element_label f
    → tree (label_for f.kind ps no_data bs) (gathered (singles (inner_nodes qs))) ≡ inner_node (face_of f qs)
inner_piece f qs ps bs e = ap₂ tree e (gathered_singles (inner_nodes qs))

pub inner_fit : (ps : Plains) (k : ℕ) (parent : Kind) (b : Bool) → shows_text parent ≡ false → PlainsIn k parent ps → in_order b ps ≡ true → (n : ℕ)
    → fit_nodes n (spot parent true b None) (plains_markups ps) ≡ Ok (singles (inner_nodes ps))
inner_fit ended k parent b s h o n = refl
inner_fit (along (characters bs) ps) k parent b s h o n =
    ap (fit_nodes n (spot parent true b None)) (no_join bs ps h.0.2 h.1)
    ∙ text_step n parent true b bs (plains_markups ps) (singles (inner_nodes ps)) s
    (λ m. inner_fit ps k parent b s h.2 (sym (ap (λ x. in_order x ps) (or_same b)) ∙ o) m)
    ∙ ap (λ t. Ok (single t ∷ singles (inner_nodes ps))) (text_node_is parent bs h.0.0)
inner_fit (along (face_of f qs) ps) k parent b s h o n =
    let t = inner_told parent f h.0.0 h.0.1.1 in
    let q = and_both (may_follow b f.kind) (in_order (b || is_block f.kind) ps) o in
    let rs : List Pair = pairs (face_said (face_attributes f)) in
    let c : Markups = plains_markups qs in
    let place : (may_hold parent f.kind && may_follow b f.kind) ≡ true = and_is (may_hold parent f.kind) (may_follow b f.kind) h.0.0 q.0 in
    node_step n (spot parent true b None) stands.Alone f.kind (element_name f.kind) rs no_data c (plains_markups ps)
    (singles (inner_nodes qs)) (singles (inner_nodes ps)) (stands_alone rs None t.alone.about) t.alone.row
    (ap (λ x. x || (false && (is_span f.kind && is_none c))) place)
    t.alone.data_is (plains_fit_texts qs (suc k) f.kind h.0.1.3.1)
    (inner_fit qs (suc k) f.kind false h.0.1.1.shows h.0.1.3.1 h.0.1.3.0 (suc n))
    (λ m. inner_fit ps k parent (b || is_block f.kind) s h.2 q.1 m)
    ∙ ap (λ x. Ok (single x ∷ singles (inner_nodes ps))) (inner_piece f qs rs (texts_in c) (t.alone.label (texts_in c)))

-- ---- the elements of a group

place_by : (h f s e n : Bool) → (h || (s && e)) ≡ true → (f || (s && e)) ≡ true → (e ≡ true → n ≡ true) → ((h && f) || (true && (s && n))) ≡ true
place_by true true s e n p q g = refl
place_by true false true true n p q g = g refl
place_by true false true false n p q g = absurd (cc q)
place_by true false false e n p q g = absurd (cc q)
place_by false f true true n p q g = g refl
place_by false f true false n p q g = absurd (cc p)
place_by false f false e n p q g = absurd (cc p)

ended_none : (qs : Plains) → is_ended qs ≡ true → is_none (plains_markups qs) ≡ true
ended_none ended e = refl
ended_none (along p ps) e = absurd (cc e)

-- behind a block, when these stand before
abbrev pub behind_all : Bool → Plains → Bool
behind_all b ended = b
behind_all b (along p ps) = behind_all (b || is_block_face p) ps

same_about : (v : List ℕ) → bytes_eq v v ≡ true
same_about v = (bytes_eq-Decides v v).1 refl

stands_further : (v : List ℕ) (ps : List Pair) → value_of (codes "about") ps ≡ Some v → has (codes "data-mw") ps ≡ false
    → standing (Some v) ps ≡ stands.Further
stands_further v ps e f =
    ap₂ (λ o b. standing_by (Some v) o b) e f ∙ ap (λ b. if b then stands.Further else stands.Astray) (same_about v)

further_fit : (es : Plains) (k : ℕ) (parent : Kind) (b : Bool) (g : ℕ) (l : Label) (rest : Markups) (zs : List Piece) → g < 2 ^ 64
    → TopsIn k parent es → all_follow b es ≡ true
    → ((m : ℕ) → fit_nodes m (spot parent false (behind_all b es) (Some (about_value g))) rest ≡ Ok zs) → (n : ℕ)
    → fit_nodes n (spot parent false b (Some (about_value g))) (group_markups false g l es rest) ≡ Ok (further_pieces (inner_nodes es) zs)
further_fit ended k parent b g l rest zs small h o r n = r n
further_fit (along (characters bs) ps) k parent b g l rest zs small h o r n = absurd h.0
further_fit (along (face_of f qs) ps) k parent b g l rest zs small h o r n =
    let t = top_told parent f qs k h.0 in
    let i = t.next g small in
    let q = and_both (may_follow b f.kind || is_empty_span f qs) (all_follow (b || is_block f.kind) ps) o in
    let rs : List Pair = pairs (next_said g (face_attributes f)) in
    let c : Markups = plains_markups qs in
    node_step n (spot parent false b (Some (about_value g))) stands.Further f.kind (element_name f.kind) rs no_data c (group_markups false g l ps rest)
    (singles (inner_nodes qs)) (further_pieces (inner_nodes ps) zs) (stands_further (about_value g) rs i.about i.no_mw) i.row
    (place_by (may_hold parent f.kind) (may_follow b f.kind) (is_span f.kind) (is_ended qs) (is_none c) h.0.0 q.0 (ended_none qs))
    i.data_is (plains_fit_texts qs (suc k) f.kind h.0.1.3.1)
    (inner_fit qs (suc k) f.kind false h.0.1.1.shows h.0.1.3.1 h.0.1.3.0 (suc n))
    (λ m. further_fit ps k parent (b || is_block f.kind) g l rest zs small h.1 q.1 r m)
    ∙ ap (λ x. Ok (further x ∷ further_pieces (inner_nodes ps) zs)) (inner_piece f qs rs (texts_in c) (i.label (texts_in c)))

first_fit : (f : Face) (qs ps : Plains) (k : ℕ) (parent : Kind) (b : Bool) (g : ℕ) (l : Label) (rest : Markups) (zs : List Piece) → g < 2 ^ 64
    → IsGroupLabel l → TopsIn k parent (along (face_of f qs) ps) → all_follow b (along (face_of f qs) ps) ≡ true
    → ((m : ℕ) → fit_nodes m (spot parent false (behind_all b (along (face_of f qs) ps)) (Some (about_value g))) rest ≡ Ok zs) → (n : ℕ)
    → fit_nodes n (spot parent false b None) (group_markups true g l (along (face_of f qs) ps) rest)
    ≡ Ok (begun (label_read l) (inner_node (face_of f qs)) ∷ further_pieces (inner_nodes ps) zs)
first_fit f qs ps k parent b g l rest zs small w h o r n =
    let t = top_told parent f qs k h.0 in
    let i = first_told g l f small w t.rising in
    let q = and_both (may_follow b f.kind || is_empty_span f qs) (all_follow (b || is_block f.kind) ps) o in
    let rs : List Pair = pairs (first_said g l (face_attributes f)) in
    let own : List Pair = pairs (face_said (face_attributes f)) in
    let c : Markups = plains_markups qs in
    node_step n (spot parent false b None) stands.First f.kind (element_name f.kind) rs i.told c (group_markups false g l ps rest)
    (singles (inner_nodes qs)) (further_pieces (inner_nodes ps) zs) (i.stands None) (ap (row (element_name f.kind)) i.own ∙ t.alone.row)
    (place_by (may_hold parent f.kind) (may_follow b f.kind) (is_span f.kind) (is_ended qs) (is_none c) h.0.0 q.0 (ended_none qs))
    i.data_is (plains_fit_texts qs (suc k) f.kind h.0.1.3.1)
    (inner_fit qs (suc k) f.kind false h.0.1.1.shows h.0.1.3.1 h.0.1.3.0 (suc n))
    (λ m. ap (λ y. fit_nodes m (spot parent false (b || is_block f.kind) y) (group_markups false g l ps rest)) i.about
    ∙ further_fit ps k parent (b || is_block f.kind) g l rest zs small h.1 q.1 r m)
    ∙ ap₂ (λ x y. Ok (begun x y ∷ further_pieces (inner_nodes ps) zs)) i.label
    (ap (λ os. tree (label_for f.kind os no_data (texts_in c)) (gathered (singles (inner_nodes qs)))) i.own
    ∙ inner_piece f qs own (texts_in c) (t.alone.label (texts_in c)))

pub group_fit : (es : Plains) (k : ℕ) (parent : Kind) (b : Bool) (g : ℕ) (l : Label) (rest : Markups) (zs : List Piece) → g < 2 ^ 64
    → IsGroupLabel l → is_ended es ≡ false → TopsIn k parent es → all_follow b es ≡ true
    → ((m : ℕ) → fit_nodes m (spot parent false (behind_all b es) (Some (about_value g))) rest ≡ Ok zs) → (n : ℕ)
    → fit_nodes n (spot parent false b None) (group_markups true g l es rest) ≡ Ok (group_pieces (label_read l) (inner_nodes es) zs)
group_fit ended k parent b g l rest zs small w e h o r n = absurd (cc e)
group_fit (along (characters bs) ps) k parent b g l rest zs small w e h o r n = absurd h.0
group_fit (along (face_of f qs) ps) k parent b g l rest zs small w e h o r n = first_fit f qs ps k parent b g l rest zs small w h o r n

-- ---- blocks among them

or_assoc : (a b c : Bool) → ((a || b) || c) ≡ (a || (b || c))
or_assoc true b c = refl
or_assoc false b c = refl

pub behind_is : (es : Plains) (k : ℕ) (parent : Kind) (b : Bool) → TopsIn k parent es → behind_all b es ≡ (b || any_shows_block (inner_nodes es))
behind_is ended k parent b h = sym (or_same b)
behind_is (along (characters bs) ps) k parent b h = absurd h.0
behind_is (along (face_of f qs) ps) k parent b h =
    let t = top_told parent f qs k h.0 in
    behind_is ps k parent (b || is_block f.kind) h.1
    ∙ or_assoc b (is_block f.kind) (any_shows_block (inner_nodes ps))
    ∙ ap (λ x. b || (x || any_shows_block (inner_nodes ps))) (sym (if_false (is_group f.kind) _ _ t.other))

-- ---- no texts stand there, and what is first has a source

pub group_blank : (es : Plains) (first : Bool) (g : ℕ) (l : Label) (rest : Markups) → are_blank rest ≡ true → are_blank (group_markups first g l es rest) ≡ true
group_blank ended first g l rest e = e
group_blank (along (characters bs) ps) first g l rest e = group_blank ps false g l rest e
group_blank (along (face_of f qs) ps) first g l rest e = group_blank ps false g l rest e

further_sourced : (es : Plains) (k : ℕ) (parent : Kind) (g : ℕ) (l : Label) (rest : Markups) → g < 2 ^ 64 → TopsIn k parent es
    → ((m : ℕ) → unsourced_nodes m (Some (about_value g)) rest ≡ None) → (n : ℕ)
    → unsourced_nodes n (Some (about_value g)) (group_markups false g l es rest) ≡ None
further_sourced ended k parent g l rest small h r n = r n
further_sourced (along (characters bs) ps) k parent g l rest small h r n = absurd h.0
further_sourced (along (face_of f qs) ps) k parent g l rest small h r n =
    let t = top_told parent f qs k h.0 in
    let i = t.next g small in
    let e : List Pair = pairs (next_said g (face_attributes f)) in
    let c : Markups = plains_markups qs in
    ap (λ s. option_or (unsourced_as s n (lacks_source (element_name f.kind) e) (unsourced_nodes (suc n) None c))
    (unsourced_nodes (n + elements (node (element_name f.kind) e c)) (open_by s (Some (about_value g)) (value_of (codes "about") e))
    (group_markups false g l ps rest)))
    (stands_further (about_value g) e i.about i.no_mw)
    ∙ further_sourced ps k parent g l rest small h.1 r (n + elements (node (element_name f.kind) e c))

pub group_sourced : (es : Plains) (k : ℕ) (parent : Kind) (g : ℕ) (l : Label) (rest : Markups) → g < 2 ^ 64 → IsGroupLabel l → is_ended es ≡ false
    → TopsIn k parent es → Fresh rest → ((m : ℕ) → unsourced_nodes m None rest ≡ None) → (n : ℕ)
    → unsourced_nodes n None (group_markups true g l es rest) ≡ None
group_sourced ended k parent g l rest small w e h x r n = absurd (cc e)
group_sourced (along (characters bs) ps) k parent g l rest small w e h x r n = absurd h.0
group_sourced (along (face_of f qs) ps) k parent g l rest small w e h x r n =
    let t = top_told parent f qs k h.0 in
    let i = first_told g l f small w t.rising in
    let rs : List Pair = pairs (first_said g l (face_attributes f)) in
    let c : Markups = plains_markups qs in
    let m : ℕ = n + elements (node (element_name f.kind) rs c) in
    ap (λ s. option_or (unsourced_as s n (lacks_source (element_name f.kind) rs) (unsourced_nodes (suc n) None c))
    (unsourced_nodes m (open_by s None (value_of (codes "about") rs)) (group_markups false g l ps rest))) (i.stands None)
    ∙ ap₂ (λ u y. option_or (if u then Some n else None) (unsourced_nodes m y (group_markups false g l ps rest)))
    (none_lacks (is_section_name (element_name f.kind)) (is_unsourced rs) i.sourced) i.about
    ∙ further_sourced ps k parent g l rest small h.1 (λ m. fresh_sourced rest m (Some (about_value g)) x ∙ r m) m

-- ---- they follow a text, or another group

pub group_fresh : (es : Plains) (k : ℕ) (parent : Kind) (g : ℕ) (l : Label) (rest : Markups) → g < 2 ^ 64 → IsGroupLabel l → is_ended es ≡ false
    → TopsIn k parent es → Fresh (group_markups true g l es rest)
group_fresh ended k parent g l rest small w e h = absurd (cc e)
group_fresh (along (characters bs) ps) k parent g l rest small w e h = absurd h.0
group_fresh (along (face_of f qs) ps) k parent g l rest small w e h =
    let t = top_told parent f qs k h.0 in
    let i = first_told g l f small w t.rising in
    λ group. i.stands group ∙ sym (i.stands None)

pub before_group : (own : List ℕ) (es : Plains) (k : ℕ) (parent : Kind) (g : ℕ) (l : Label) (rest : Markups) → is_empty own ≡ false → is_ended es ≡ false
    → TopsIn k parent es → text_before own (group_markups true g l es rest) ≡ more (text own) (group_markups true g l es rest)
before_group [] es k parent g l rest s e h = absurd (cc s)
before_group (b ∷ bs) ended k parent g l rest s e h = absurd (cc e)
before_group (b ∷ bs) (along (characters cs) ps) k parent g l rest s e h = absurd h.0
before_group (b ∷ bs) (along (face_of f qs) ps) k parent g l rest s e h = refl
