-- What each call gives beside styles is a group by itself.
use Rattle.std.proofs.Common.{arith, ◌≡◌, inl, inr, ℕ, ◌+◌, ◌<◌, Bool, true, false, Option, List, [], ◌∷◌, ◌++◌, length, not, refl, ◌||◌, ap, ap₂, append-nil, subst, sym, ◌∙◌}
use Rattle.std.specs.List.{list_all}
use Rattle.wt_span.specs.Items.{Item}
use Rattle.wt_guards.specs.Content.{ContentSign, Thing, is_group as is_call, letter, thing}
use Rattle.wt_guards.specs.Guards.{Setting, is_guarded}
use Rattle.wt_guards.specs.Letters.{is_escaped}
use Rattle.wt_guards.specs.declared.role.Role.TheVariants.{Toggle}
use Rattle.wt_guards.specs.declared.role.Stretch.{Stretch}
use Rattle.wt_guards.specs.declared.role.Transclusion.{Transclusion}
use Rattle.wt_inline.proofs.HeldLaws.{held_children}
use Rattle.wt_inline.specs.ItemTree.{forest, held_by_all, tree_items}
use Rattle.wt_inline.specs.Parts.{Part, children, held_parts, node, parts}
use Rattle.wt_inline.specs.declared.loose.Loose.TheVariants.{Text}
use Rattle.wt_context.specs.Line.{line_parts}
use Rattle.wt_annotated.specs.Clean.{is_page}
use Rattle.wt_expand.specs.PageCalls.{expanded_page}
use Rattle.wt_expand.specs.Work.{Pages}
use Rattle.wt_part_laws.proofs.CallPieces.{as_pieces}
use Rattle.wt_part_laws.specs.CallPieces.{ArePieceNodes, IsPieceNode, call_pieces}
use Rattle.wt_part_laws.specs.Expanded.{calls_in, part_items}
use Rattle.wt_beside_laws.proofs.Groups.CalledBlocks.{guard_parts, letter_parts, some_of_page}
use Rattle.wt_beside_laws.proofs.Groups.Folders.{folder_case}
use Rattle.wt_beside_laws.proofs.Groups.RoundNodes.{deep_round}
use Rattle.wt_beside_laws.proofs.StyledGroups.Blocks.{style_round, styled_each}
use Rattle.wt_beside_laws.specs.Called.{GivesGroup, items_with, owns_in}
use Rattle.wt_beside_laws.specs.Content.{guard_items, letter_items}
use Rattle.wt_beside_laws.specs.Flat.{IsFlat}
use Rattle.wt_beside_laws.specs.Given.{AreGivenBy, GivesSigns}
use Rattle.wt_beside_laws.specs.Nests.{marks, style_tree}
use Rattle.wt_beside_laws.specs.Styled.{AreNested, StyledContent, delimiter, finished, mark_source, sign, signs_before, signs_past, styled}
use Rattle.wt_beside_laws.specs.StyledCalls.{AreOwnAt, owns_left, owns_past, styled_with}
use Rattle.wt_beside_laws.specs.StyledNodes.{IsPut}
use Rattle.wt_called_edit_laws.proofs.Styles.Shown.{calls_behind, past_as}
use Rattle.wt_called_edit_laws.proofs.Styles.Things.{AreStyledThings, IsStyledThing}
use Rattle.wt_called_edit_laws.proofs.Styles.Written.{all_given, call_or_not, each_behind, own_some, put_some}
use Rattle.wt_called_edit_laws.proofs.Whole.Contents.{AreLastOf, all_before, guard_none, has_call, last_thing, letter_none, no_groups, page_none, past_both, thing_none, three_none}
use Rattle.wt_called_edit_laws.proofs.Whole.GroupsAlone.{groups_call, groups_node, groups_page, groups_round, past_first}
use Rattle.wt_called_edit_laws.proofs.Whole.OfCall.{of_page, of_same}
use Rattle.wt_called_edit_laws.specs.WholeContents.{AreGroups, of_call}

abbrev pub mark_thing : Bool → Option Stretch → Thing
mark_thing kind place = record { role = Toggle; source = mark_source kind; place = place }

put_call : (x : Thing) → IsPut x → is_call x.role ≡ true → ⊥
put_call x (inl m) e = let no : false ≡ true = sym (ap is_call m.1) ∙ e in cc
put_call x (inr w) e = let no : false ≡ true = sym (ap is_call w.0) ∙ e in cc

-- a call gives a group
call_gives : (pages : Pages) (x : Thing) → IsStyledThing pages x → is_call x.role ≡ true → (g : Transclusion) × GivesGroup pages g x.source
call_gives pages x (inr p) e = absurd (put_call x p e)
call_gives pages x (inl k) e =
    let own = k.0 in
    elim (folder_case x.role pages x own.folder) [
      | inl n ↦ let no : true ≡ false = sym e ∙ n.1 in absurd (cc)
      | inr c ↦ elim c [
        | inl n ↦ let no : true ≡ false = sym e ∙ n.1 in absurd (cc)
        | inr g ↦ (g.0, g.2)
      ]
    ]

-- more calls come before what is behind a style
behind_more : (pages : Pages) (j i : ℕ) (t : StyledContent) → j < i → j < calls_behind pages i t
behind_more pages j i finished l = l
behind_more pages j i (sign (letter c) t) l = behind_more pages j i t l
behind_more pages j i (sign (thing x) t) l = behind_more pages j (i + length (expanded_page pages x.source).outer) t (omega (arith, l))
behind_more pages j i (styled kind opening closing inside t) l =
    let n : ℕ = i + length (expanded_page pages (mark_source kind)).outer in
    let less : j < n = omega (arith, l) in
    let in_it : j < calls_behind pages n inside = behind_more pages j n inside less in
    behind_more pages j (calls_behind pages n inside + length (expanded_page pages (mark_source kind)).outer) t (omega (arith, in_it))

after_mark : (pages : Pages) (kind : Bool) (n : ℕ) (inside : StyledContent) (j : ℕ) → j < n
    → j < calls_behind pages n inside + length (expanded_page pages (mark_source kind)).outer
after_mark pages kind n inside j l = let in_it : j < calls_behind pages n inside = behind_more pages j n inside l in omega (arith, in_it)

-- ---- what is behind

pub last_letter : (all : List Item) (i c : ℕ) (u e : Bool) (rest : List Item) → AreLastOf all i (guard_items u ++ (letter_items e c ++ rest)) → AreLastOf all i rest
last_letter all i c u e rest f = λ j l.
    f j l ∙ past_both j (guard_items u) (letter_items e c) rest (guard_none j u) ∙ ap (λ (us : List Item). us ++ of_call j rest) (letter_none j e c)

pub last_behind : (pages : Pages) (all : List Item) (i : ℕ) (s : Setting) (before : List ContentSign) (t : StyledContent) (after : List ContentSign)
    → AreLastOf all i (items_with s before (signs_before t after) (owns_in pages i (signs_before t after)))
    → AreLastOf all (calls_behind pages i t) (items_with s (signs_past t before) after (owns_in pages (calls_behind pages i t) after))
last_behind pages all i s before finished after f = f
last_behind pages all i s before (sign (letter c) t) after f =
    let signs : List ContentSign = signs_before t after in
    last_behind pages all i s (letter c ∷ before) t after
    (last_letter all i c (is_guarded s before (letter c ∷ signs)) (is_escaped s.within s.place before c signs) (items_with s (letter c ∷ before) signs (owns_in pages i signs)) f)
last_behind pages all i s before (sign (thing x) t) after f =
    let signs : List ContentSign = signs_before t after in
    let next : ℕ = i + calls_in pages x.source in
    last_behind pages all next s (thing x ∷ before) t after
    (last_thing pages all i x (is_guarded s before (thing x ∷ signs)) (items_with s (thing x ∷ before) signs (owns_in pages next signs)) f)
last_behind pages all i s before (styled kind opening closing inside t) after f =
    let first : List ContentSign = delimiter kind opening ∷ before in
    let past : List ContentSign = signs_past inside first in
    let signs : List ContentSign = signs_before t after in
    let closes : List ContentSign = delimiter kind closing ∷ signs in
    let held : List ContentSign = signs_before inside closes in
    let j : ℕ = i + calls_in pages (mark_source kind) in
    let k : ℕ = calls_behind pages j inside in
    let m : ℕ = k + calls_in pages (mark_source kind) in
    let a : AreLastOf all j (items_with s first held (owns_in pages j held)) =
    last_thing pages all i (mark_thing kind opening) (is_guarded s before (delimiter kind opening ∷ held)) (items_with s first held (owns_in pages j held)) f in
    let b : AreLastOf all k (items_with s past closes (owns_in pages k closes)) = last_behind pages all j s first inside closes a in
    let c : AreLastOf all m (items_with s (delimiter kind closing ∷ past) signs (owns_in pages m signs)) =
    last_thing pages all k (mark_thing kind closing) (is_guarded s past closes) (items_with s (delimiter kind closing ∷ past) signs (owns_in pages m signs)) b in
    last_behind pages all m s (delimiter kind closing ∷ past) t after c

-- ---- among the parts no other call comes before its own

styled_thing_none : (pages : Pages) (i j : ℕ) (x : Thing) → IsStyledThing pages x → IsFlat x.role → j < i
    → of_call j (held_parts (line_parts (part_items pages i x.source))) ≡ []
styled_thing_none pages i j x (inl k) f l = let own = k.0 in thing_none pages i j x own.folder l
styled_thing_none pages i j x (inr p) f l =
    page_none j (line_parts (part_items pages i x.source)) (some_of_page (line_parts (part_items pages i x.source)) (put_some pages i x p f))

marks_page : (kind : Bool) → list_all is_page (marks kind) ≡ true
marks_page true = refl
marks_page false = refl

style_none : (j : ℕ) (kind : Bool) (ps : List Part) → of_call j (held_parts ps) ≡ [] → of_call j (held_parts (node (style_tree kind ps) ∷ [])) ≡ []
style_none j kind ps e =
    ap (of_call j) (append-nil (tree_items (style_tree kind ps)))
    ∙ past_both j (marks kind) (held_by_all (forest (children ps))) (marks kind) (of_page j (marks kind) (marks_page kind))
    ∙ ap₂ (λ (us vs : List Item). us ++ vs) (ap (of_call j) (held_children ps) ∙ e) (of_page j (marks kind) (marks_page kind))

-- also of what is in a style, before what follows
later_styled : (pages : Pages) (i j : ℕ) (s : Setting) (bold italic : Bool) (before : List ContentSign) (t : StyledContent) (after : List ContentSign)
    → AreStyledThings pages (signs_before t after) → AreNested bold italic t → j < i
    → of_call j (held_parts (styled_with false s before t after (owns_in pages i (signs_before t after)))) ≡ []
later_styled pages i j s bold italic before finished after h k l = let u : Bool = is_guarded s before after in page_none j (parts Text (guard_items u)) (guard_parts u)
later_styled pages i j s bold italic before (sign (letter c) t) after h k l =
    let e : Bool = is_escaped s.within s.place before c (signs_before t after) in
    let u : Bool = is_guarded s before (letter c ∷ signs_before t after) in
    three_none j (parts Text (guard_items u)) (parts Text (letter_items e c)) (styled_with false s (letter c ∷ before) t after (owns_in pages i (signs_before t after)))
    (page_none j (parts Text (guard_items u)) (guard_parts u)) (page_none j (parts Text (letter_items e c)) (letter_parts e c))
    (later_styled pages i j s bold italic (letter c ∷ before) t after h k.1 l)
later_styled pages i j s bold italic before (sign (thing x) t) after h k l =
    let u : Bool = is_guarded s before (thing x ∷ signs_before t after) in
    let next : ℕ = i + length (expanded_page pages x.source).outer in
    three_none j (parts Text (guard_items u)) (line_parts (part_items pages i x.source))
    (styled_with false s (thing x ∷ before) t after (owns_in pages next (signs_before t after)))
    (page_none j (parts Text (guard_items u)) (guard_parts u)) (styled_thing_none pages i j x h.0 k.0 l)
    (later_styled pages next j s bold italic (thing x ∷ before) t after h.1 k.1 (omega (arith, l)))
later_styled pages i j s bold italic before (styled kind opening closing inside t) after h k l =
    let first : List ContentSign = delimiter kind opening ∷ before in
    let last : List ContentSign = delimiter kind closing ∷ signs_past inside first in
    let closes : List ContentSign = delimiter kind closing ∷ signs_before t after in
    let held : List ContentSign = signs_before inside closes in
    let n : ℕ = i + length (expanded_page pages (mark_source kind)).outer in
    let m : ℕ = calls_behind pages n inside + length (expanded_page pages (mark_source kind)).outer in
    let less : j < n = omega (arith, l) in
    let owns : List (List Item) = owns_in pages n held in
    let same : owns_past inside owns ≡ owns_in pages (calls_behind pages n inside) closes = past_as pages n inside closes in
    let ps : List Part = styled_with false s first inside closes owns in
    let u : Bool = is_guarded s before (delimiter kind opening ∷ signs_before inside closes) in
    let later : of_call j (held_parts (styled_with false s last t after (owns_left (owns_past inside owns)))) ≡ [] =
    subst (λ (os : List (List Item)). of_call j (held_parts (styled_with false s last t after (owns_left os))) ≡ []) (sym same)
    (later_styled pages m j s bold italic last t after (each_behind pages inside closes h.1).1 k.2 (after_mark pages kind n inside j less)) in
    three_none j (parts Text (guard_items u)) (node (style_tree kind ps) ∷ []) (styled_with false s last t after (owns_left (owns_past inside owns)))
    (page_none j (parts Text (guard_items u)) (guard_parts u))
    (style_none j kind ps (later_styled pages n j s (kind || bold) (not kind || italic) first inside closes h.1 k.1 less)) later

-- ---- a group

group_there : (pages : Pages) (all : List Item) (i : ℕ) (t : Thing) (g : Transclusion) (u : Bool) (rest : List Item) (more : List Part) → GivesGroup pages g t.source
    → AreLastOf all i (guard_items u ++ (part_items pages i t.source ++ rest)) → of_call i rest ≡ [] → ArePieceNodes more → of_call i (held_parts more) ≡ []
    → AreGroups all (call_pieces (children more)) → AreGroups all (call_pieces (children (line_parts (part_items pages i t.source) ++ more)))
group_there pages all i t g u rest more h f none own held later =
    let xs : List Item = part_items pages i t.source in
    let group = h i in
    let gives : GivesSigns i xs = group.gives in
    let is : of_call i all ≡ xs =
    f i (omega arith)
    ∙ past_both i (guard_items u) xs rest (guard_none i u)
    ∙ ap₂ (λ (us vs : List Item). us ++ vs) (of_same i xs gives.of_call) none
    ∙ append-nil xs in
    subst (λ (ys : List Item). AreGroups all (call_pieces (children (line_parts ys ++ more)))) is
    (groups_call all i more (subst (λ (ys : List Item). AreGivenBy i (line_parts ys)) (sym is) gives.inside) (subst (GivesSigns i) (sym is) gives) own
    (past_first i (held_parts more) held) later)

pub groups_styled : (pages : Pages) (all : List Item) (i : ℕ) (s : Setting) (bold italic : Bool) (before : List ContentSign) (t : StyledContent)
    (after : List ContentSign) → AreStyledThings pages (signs_before t after) → AreNested bold italic t
    → AreOwnAt bold italic t (owns_in pages i (signs_before t after)) → AreLastOf all i (items_with s before (signs_before t after) (owns_in pages i (signs_before t after)))
    → AreGroups all (call_pieces (children (styled_with false s before t after (owns_in pages i (signs_before t after)))))
groups_styled pages all i s bold italic before finished after h k o f =
    let ps : List Part = parts Text (guard_items (is_guarded s before after)) in
    subst (λ (qs : List Part). AreGroups all (call_pieces (children qs))) (append-nil ps)
    (groups_page all ps [] (guard_parts (is_guarded s before after)) (no_groups all))
groups_styled pages all i s bold italic before (sign (letter c) t) after h k o f =
    let signs : List ContentSign = signs_before t after in
    let e : Bool = is_escaped s.within s.place before c signs in
    let u : Bool = is_guarded s before (letter c ∷ signs) in
    let more : List Part = styled_with false s (letter c ∷ before) t after (owns_in pages i signs) in
    groups_page all (parts Text (guard_items u)) (parts Text (letter_items e c) ++ more) (guard_parts u)
    (groups_page all (parts Text (letter_items e c)) more (letter_parts e c)
    (groups_styled pages all i s bold italic (letter c ∷ before) t after h k.1 o
    (last_letter all i c u e (items_with s (letter c ∷ before) signs (owns_in pages i signs)) f)))
groups_styled pages all i s bold italic before (sign (thing x) t) after h k o f =
    let signs : List ContentSign = signs_before t after in
    let u : Bool = is_guarded s before (thing x ∷ signs) in
    let next : ℕ = i + calls_in pages x.source in
    let own : List Item = part_items pages i x.source in
    let more : List Part = styled_with false s (thing x ∷ before) t after (owns_in pages next signs) in
    let rest : List Item = items_with s (thing x ∷ before) signs (owns_in pages next signs) in
    let later : AreGroups all (call_pieces (children more)) =
    groups_styled pages all next s bold italic (thing x ∷ before) t after h.1 k.1 o.1 (last_thing pages all i x u rest f) in
    groups_page all (parts Text (guard_items u)) (line_parts own ++ more) (guard_parts u)
    (elim (call_or_not (is_call x.role)) [
      | inr e ↦ elim (own_some pages i x h.0 k.0 e) [
        | inl p ↦ groups_page all (line_parts own) more (some_of_page (line_parts own) p) later
        | inr r ↦ groups_round all own more r later
      ]
      | inl e ↦
          let group = call_gives pages x h.0 e in
          let some : 0 < calls_in pages x.source = has_call pages i group.0 x.source group.1 in
          let less : i < next = omega (arith, some) in
          let own_pieces : ArePieceNodes more =
          styled_each IsPieceNode (λ qs g. as_pieces qs g) (λ u r z. inr (deep_round u r)) s bold italic (thing x ∷ before) t after (owns_in pages next signs)
          (all_given pages next signs h.1) k.1 o.1 (λ kind qs g a. inr (style_round kind qs)) in
          group_there pages all i x group.0 u rest more group.1 f (all_before pages next i s (thing x ∷ before) signs less) own_pieces
          (later_styled pages next i s bold italic (thing x ∷ before) t after h.1 k.1 less) later
    ])
groups_styled pages all i s bold italic before (styled kind opening closing inside t) after h k o f =
    let first : List ContentSign = delimiter kind opening ∷ before in
    let past : List ContentSign = signs_past inside first in
    let last : List ContentSign = delimiter kind closing ∷ past in
    let signs : List ContentSign = signs_before t after in
    let closes : List ContentSign = delimiter kind closing ∷ signs in
    let held : List ContentSign = signs_before inside closes in
    let j : ℕ = i + calls_in pages (mark_source kind) in
    let n : ℕ = calls_behind pages j inside in
    let m : ℕ = n + calls_in pages (mark_source kind) in
    let a : AreLastOf all j (items_with s first held (owns_in pages j held)) =
    last_thing pages all i (mark_thing kind opening) (is_guarded s before (delimiter kind opening ∷ held)) (items_with s first held (owns_in pages j held)) f in
    let b : AreLastOf all n (items_with s past closes (owns_in pages n closes)) = last_behind pages all j s first inside closes a in
    let c : AreLastOf all m (items_with s last signs (owns_in pages m signs)) =
    last_thing pages all n (mark_thing kind closing) (is_guarded s past closes) (items_with s last signs (owns_in pages m signs)) b in
    let owns : List (List Item) = owns_in pages j held in
    let same : owns_past inside owns ≡ owns_in pages n closes = past_as pages j inside closes in
    let ps : List Part = styled_with false s first inside closes owns in
    let u : Bool = is_guarded s before (delimiter kind opening ∷ signs_before inside closes) in
    let out : AreOwnAt bold italic t (owns_in pages m signs) = subst (λ (os : List (List Item)). AreOwnAt bold italic t (owns_left os)) same o.1 in
    let qs : List Part = styled_with false s last t after (owns_left (owns_past inside owns)) in
    let later : AreGroups all (call_pieces (children qs)) =
    subst (λ (os : List (List Item)). AreGroups all (call_pieces (children (styled_with false s last t after (owns_left os))))) (sym same)
    (groups_styled pages all m s bold italic last t after (each_behind pages inside closes h.1).1 k.2 out c) in
    groups_page all (parts Text (guard_items u)) (node (style_tree kind ps) ∷ qs) (guard_parts u) (groups_node all (style_tree kind ps) qs (inr (style_round kind ps)) later)
