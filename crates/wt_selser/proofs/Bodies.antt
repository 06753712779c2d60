-- Outside leaves the root of a page is its only body: what follows for numbers.
use Rattle.std.proofs.Common.{◌≡◌, ◌≢◌, ℕ, Bool, true, false, List, [], ◌∷◌, ◌++◌, refl, ap, ◌∙◌}
use Rattle.std.specs.Prelude.{◌==◌, ◌||◌, not, if◌then◌else◌, MatchOption, Option, Some, None}
use Rattle.std.specs.List.{AllByRecursion}
use Rattle.wt_tree.specs.declared.kind.Kind.{Kind}
use Rattle.wt_tree.specs.declared.kind.Kind.TheVariants as kind
use Rattle.wt_tree.specs.Kinds.{is_leaf, is_numbered, writing}
use Rattle.wt_tree.specs.Tiling.{is_group, ids, ids_of_all, numbers, numbers_of_all, others, others_of_all}
use Rattle.wt_tree.specs.Tree.{Tree, tree, Trees, none, more, label, listed}
use Rattle.wt_checks.specs.Ids.{is_there}
use Rattle.wt_checks.specs.Kept.{children, GroupAsItWas, NodeAsItWas, GroupKept}
use Rattle.wt_checks.specs.Places.{Place, placed, all_placed, places, kind_at, is_kept, is_body, is_content, page_of, parent_below}
use Rattle.wt_checks.specs.PutBack.{is_frame}
use Rattle.wt_checks.specs.Tokens.{is_text}
use Rattle.wt_checks.proofs.Children.{UnnumberedFree, below_root, unnumbered_text}
use Rattle.wt_checks.proofs.Found.{IsKnown, body_no_group, found_has, inner_by, own_by}
use Rattle.wt_checks.proofs.InOrder.{kept_not_zero, zero_of}
use Rattle.wt_checks.proofs.Lookups.{each_split, each_join, AllZero, NoZero, PageNumbers}
use Rattle.wt_selser.specs.Leaves.{LeavesHoldNoNumber, AllLeavesHoldNoNumber, HoldsNoFrame, NoneIsFrame}
use Rattle.wt_selser.proofs.PageChains.{all_none_kept}

either : (b : Bool) (P : Type 0) → (b ≡ true → P) → (b ≡ false → P) → P
either true P f g = f refl
either false P f g = g refl

-- ---- what has no number by its kind holds none

text_leaf : (k : Kind) → is_text (writing k) ≡ true → is_leaf k ≡ true
text_leaf kind.Sep e = refl
text_leaf kind.Text e = refl
text_leaf k e = absurd (cc)

mutual
  numberless : (m : ℕ) (w : Bool) (t : Tree) → AllZero (ids t) → AllByRecursion UnnumberedFree (placed m w t)
  numberless m w (tree l ts) z = ((λ n. z.1), all_numberless (parent_below m l.id) (w || is_content l.mark) ts z.1)

  all_numberless : (m : ℕ) (w : Bool) (ts : Trees) → AllZero (ids_of_all ts) → AllByRecursion UnnumberedFree (all_placed m w ts)
  all_numberless m w none z = tt
  all_numberless m w (more t ts) z =
      let y = each_split (λ n. n ≡ 0) (ids t) (ids_of_all ts) z in
      each_join UnnumberedFree (placed m w t) (all_placed m w ts) (numberless m w t y.0) (all_numberless m w ts y.1)

mutual
  free : (m : ℕ) (w : Bool) (t : Tree) → LeavesHoldNoNumber t → is_frame (label t).kind ≡ false → HoldsNoFrame t → AllByRecursion UnnumberedFree (placed m w t)
  free m w (tree l ts) b n h =
      let down = parent_below m l.id in
      let v = w || is_content l.mark in (
        λ i. b.0 (text_leaf l.kind (unnumbered_text l.kind i n)),
        either (is_leaf l.kind) (AllByRecursion UnnumberedFree (all_placed down v ts)) (λ e. all_numberless down v ts (b.0 e))
            (λ e. all_free down v ts b.1 (h e)),
      )

  all_free : (m : ℕ) (w : Bool) (ts : Trees) → AllLeavesHoldNoNumber ts → NoneIsFrame ts → AllByRecursion UnnumberedFree (all_placed m w ts)
  all_free m w none b h = tt
  all_free m w (more t ts) b h =
      each_join UnnumberedFree (placed m w t) (all_placed m w ts) (free m w t b.0 h.0 h.1) (all_free m w ts b.1 h.2)

pub free_root : (t : Tree) → (label t).kind ≡ kind.Body → HoldsNoFrame t → LeavesHoldNoNumber t → AllByRecursion UnnumberedFree (below_root t)
free_root (tree l ts) k h b = all_free (parent_below 0 l.id) (is_content l.mark) ts b.1 (h (ap is_leaf k))

-- ---- the children of the root

known : (ts : Trees) → NoneIsFrame ts → NoZero (numbers_of_all ts) → AllByRecursion IsKnown (listed ts)
known none h o = tt
known (more (tree l us) ts) h o =
    let p = each_split (λ n. n ≢ 0) (numbers (tree l us)) (numbers_of_all ts) o in (
      record { other = h.0; has = own_by (is_numbered l.kind) l.id (if is_group l.kind then [] else numbers_of_all us) p.0 },
      known ts h.2 p.1,
    )

pub known_top : (t : Tree) → (label t).kind ≡ kind.Body → HoldsNoFrame t → PageNumbers t → AllByRecursion IsKnown (listed (children t))
known_top (tree l ts) k h n =
    let i = inner_by (is_numbered l.kind) (is_group l.kind) l.id ts n.unnumbered n.counted in
    known ts (h (ap is_leaf k)) (i.outside (ap is_group k)).1

-- ---- a node with a number is of a kind that has one

abbrev Numbered : Place → Type 0
Numbered q = is_kept q ≡ true → is_numbered (kind_at q) ≡ true

own_kind : (n : Bool) (k : Kind) (id : ℕ) (ms : List ℕ) → is_numbered k ≡ n → AllZero ((if n then [] else id ∷ []) ++ ms) → not (id == 0) ≡ true
    → is_numbered k ≡ true
own_kind true k id ms e z h = e
own_kind false k id ms e z h = absurd (kept_not_zero id h z.0)

inner_zero : (n : Bool) (id : ℕ) (ms : List ℕ) → AllZero ((if n then [] else id ∷ []) ++ ms) → AllZero ms
inner_zero true id ms z = z
inner_zero false id ms z = z.1

below_by : (g : Bool) (m : ℕ) (w : Bool) (ts : Trees) → AllZero (if g then ids_of_all ts else others_of_all ts)
    → (AllZero (others_of_all ts) → AllByRecursion Numbered (all_placed m w ts)) → AllByRecursion Numbered (all_placed m w ts)
below_by true m w ts z f = all_none_kept (λ q. is_numbered (kind_at q) ≡ true) m w ts z
below_by false m w ts z f = f z

mutual
  numbered : (m : ℕ) (w : Bool) (t : Tree) → AllZero (others t) → AllByRecursion Numbered (placed m w t)
  numbered m w (tree l ts) z = (
    λ k. own_kind (is_numbered l.kind) l.kind l.id (if is_group l.kind then ids_of_all ts else others_of_all ts) refl z k,
    below_by (is_group l.kind) (parent_below m l.id) (w || is_content l.mark) ts
        (inner_zero (is_numbered l.kind) l.id (if is_group l.kind then ids_of_all ts else others_of_all ts) z)
        (λ y. all_numbered (parent_below m l.id) (w || is_content l.mark) ts y),
  )

  all_numbered : (m : ℕ) (w : Bool) (ts : Trees) → AllZero (others_of_all ts) → AllByRecursion Numbered (all_placed m w ts)
  all_numbered m w none z = tt
  all_numbered m w (more t ts) z =
      let y = each_split (λ n. n ≡ 0) (others t) (others_of_all ts) z in
      each_join Numbered (placed m w t) (all_placed m w ts) (numbered m w t y.0) (all_numbered m w ts y.1)

-- so a body has none, in the edited tree too
body_unnumbered : (k : Kind) → is_body k ≡ true → is_numbered k ≡ false
body_unnumbered kind.Body e = refl
body_unnumbered k e = absurd (cc)

no_body_there : (t u : Tree) (o : Option Place) → AllZero (others t) → is_body (label u).kind ≡ true → not ((label u).id == 0) ≡ true
    → page_of t (label u).id ≡ o → is_there o ≡ true
    → MatchOption o (Unit {0}) (λ q. is_group (kind_at q) ≡ true → GroupAsItWas false q.node u)
    → MatchOption o (Unit {0}) (λ q. is_group (kind_at q) ≡ false → NodeAsItWas q.node u) → ⊥
no_body_there t u None z r k e there g n = absurd (cc)
no_body_there t u (Some q) z r k e there g n =
    let f = found_has Numbered (label u).id q (places t) (numbered 0 false t z) e in
    let i : is_numbered (kind_at q) ≡ true = f.0 (ap (λ j. not (j == 0)) f.1 ∙ k) in
    either (is_group (kind_at q)) (⊥)
    (λ h. let x : is_group (label u).kind ≡ true = (g h).group in let y = body_no_group (label u).kind r in absurd (cc))
    (λ h. let x : is_numbered (kind_at q) ≡ is_numbered (label u).kind = ap is_numbered (n h).kind in
    let y = body_unnumbered (label u).kind r in absurd (cc))

pub root_zero : (t u : Tree) → AllZero (others t) → is_body (label u).kind ≡ true
    → (not ((label u).id == 0) ≡ true → is_there (page_of t (label u).id) ≡ true)
    → GroupKept false (page_of t) (record { node = u; parent = 0; in_content = false })
    → ((not ((label u).id == 0) || is_body (label u).kind) ≡ true
    → MatchOption (page_of t (label u).id) (Unit {0}) (λ q. is_group (kind_at q) ≡ false → NodeAsItWas q.node u)) → (label u).id ≡ 0
root_zero t u z r there g n = either (not ((label u).id == 0)) ((label u).id ≡ 0)
    (λ k. absurd (no_body_there t u (page_of t (label u).id) z r k refl (there k) (g k) (n (ap (λ b. b || is_body (label u).kind) k))))
    (λ k. zero_of (label u).id k)
