-- What is given of a place of the edited tree, and what it gives of the children of a node that is marked
-- `children`.
use Rattle.std.proofs.Common.{◌≡◌, ◌≢◌, ℕ, Bool, true, false, List, [], ◌∷◌, refl, sym, ap, ◌∙◌, subst}
use Rattle.std.specs.Prelude.{◌||◌, Some}
use Rattle.std.specs.List.{AllByRecursion}
use Rattle.wt_tree.specs.declared.kind.Kind.{Kind}
use Rattle.wt_tree.specs.declared.kind.Kind.TheVariants as kind
use Rattle.wt_tree.specs.Kinds.{showing}
use Rattle.wt_tree.specs.Tiling.{is_group}
use Rattle.wt_tree.specs.Tree.{Tree, tree, Trees, none, more, label, listed}
use Rattle.wt_checks.specs.Gist.{gist, gists}
use Rattle.wt_checks.specs.Kept.{children, GroupAsItWas, NodeAsItWas, GroupKept, NodeKept}
use Rattle.wt_checks.specs.Places.{Place, placed, all_placed, number, kind_at, is_body, Page}
use Rattle.wt_checks.specs.PutBack.{as_they_stand, put_back, all_put_back, IsAsRead}
use Rattle.wt_checks.specs.Unmarked.{is_compared}
use Rattle.wt_checks.proofs.Children.{Among, of_among, StandsIn}
use Rattle.wt_checks.proofs.Found.{Found}
use Rattle.wt_checks.proofs.InOrder.{not_zero_kept}
use Rattle.wt_checks.proofs.Lookups.{each_split}
use Rattle.wt_checks.proofs.Parents.{ParentFree}
use Rattle.wt_checks.proofs.PutBack.{PageOf, at_some, not_both}
use Rattle.wt_checks.proofs.Standing.{is_shown, standing, StandsAlike, stand_alike, all_shown, HiddenThere, Distinct, Picked, all_picked, back_distinct}

-- ---- what is given of a place of the edited tree

abbrev pub HiddenKept : Page → Place → Type 0
HiddenKept page p = is_compared (showing (kind_at p)) ≡ false → NodeKept page p

pub record Given (values : Bool) (page : Page) (p : Place) : Type 0 where
  pub group : GroupKept values page p
  pub hidden : HiddenKept page p
  pub read : IsAsRead p
  pub free : ParentFree page p
  pub child : StandsIn page p
  pub distinct : Distinct (children p.node)

pub all_given : (values : Bool) (page : Page) (ps : List Place) → AllByRecursion (GroupKept values page) ps → AllByRecursion (HiddenKept page) ps
    → AllByRecursion IsAsRead ps → AllByRecursion (ParentFree page) ps → AllByRecursion (StandsIn page) ps
    → AllByRecursion (λ p. Distinct (children p.node)) ps → AllByRecursion (Given values page) ps
all_given values page [] g h r f c d = tt
all_given values page (p ∷ ps) g h r f c d = (
  record { group = g.0; hidden = h.0; read = r.0; free = f.0; child = c.0; distinct = d.0 },
  all_given values page ps g.1 h.1 r.1 f.1 c.1 d.1,
)

-- ---- children of a node that is marked `children`

group_compared : (k : Kind) → is_group k ≡ true → is_compared (showing k) ≡ true
group_compared kind.Group e = refl
group_compared k e = absurd (cc)

-- what isn't compared of the edited tree isn't compared in the page
hidden_there : (values : Bool) (page : Page) (parent : ℕ) (us : Trees) → AllByRecursion (Given values page) (all_placed parent false us)
    → AllByRecursion (HiddenThere page) (listed (all_put_back values page us))
hidden_there values page parent none h = tt
hidden_there values page parent (more (tree m vs) us) h =
    let s = each_split (Given values page) (placed parent false (tree m vs)) (all_placed parent false us) h in
    ((λ z c r e. by_group (is_group (kind_at r)) r refl s.0.0 z c e), hidden_there values page parent us s.1)
  where
    by_group : (g : Bool) (r : Place) → is_group (kind_at r) ≡ g → Given values page (record { node = tree m vs; parent = parent; in_content = false })
        → m.id ≢ 0 → is_compared (showing m.kind) ≡ false → page m.id ≡ Some r → is_compared (showing (kind_at r)) ≡ false
    by_group true r i d z c e =
        let a = at_some (λ q. is_group (kind_at q) ≡ true → GroupAsItWas values q.node (tree m vs)) (page m.id) r e (d.group (not_zero_kept m.id z)) i in
        absurd (not_both (is_compared (showing m.kind)) (group_compared m.kind a.group) c)
    by_group false r i d z c e =
        let a = at_some (λ q. is_group (kind_at q) ≡ false → NodeAsItWas q.node (tree m vs)) (page m.id) r e
        (d.hidden c (ap (λ b. b || is_body m.kind) (not_zero_kept m.id z)) refl) i in
        ap (λ k. is_compared (showing k)) a.kind ∙ c

-- a child with a number is the page's
abbrev pub IsPages : Bool → Page → Tree → Type 0
IsPages values page u = (label u).id ≢ 0 → is_shown u ≡ true
    → (r : Place) × (page (label u).id ≡ Some r) × (gist (put_back values page u) ≡ gist r.node)

each_pages : (values : Bool) (page : Page) (parent : ℕ) (q : Place) (vs us : Trees) → PageOf page → page parent ≡ Some q
    → AllByRecursion (StandsAlike vs) (listed (children q.node)) → AllByRecursion (Picked vs) (listed (all_put_back values page us))
    → AllByRecursion (Given values page) (all_placed parent false us) → AllByRecursion (IsPages values page) (listed us)
each_pages values page parent q vs none H e a k s = tt
each_pages values page parent q vs (more (tree m us) ws) H e a k s =
    let w = each_split (Given values page) (placed parent false (tree m us)) (all_placed parent false ws) s in (
      λ z c. let i = w.0.0.child (not_zero_kept m.id z) in
          let o : Some i.round ≡ Some q = sym i.over ∙ e in
          let d : i.round ≡ q = cc in
          let g = of_among (StandsAlike vs) i.now.node (children q.node) (subst (λ (r : Place). Among i.now.node (children r.node)) d i.among) a in
          let n : number i.now ≡ m.id = (H m.id i.now i.there).1 in
          let t : standing i.now.node vs ≡ put_back values page (tree m us) = k.0 z i.now.node n in
          (i.now, i.there, ap gist (sym t) ∙ g (ap is_shown t ∙ c)),
      each_pages values page parent q vs ws H e a k.1 w.1,
    )

pub pages_children : (values : Bool) (page : Page) (parent : ℕ) (q : Place) (us : Trees) → PageOf page → page parent ≡ Some q
    → gists (as_they_stand (children q.node) (all_put_back values page us)) ≡ gists (children q.node)
    → AllByRecursion (Found page) (listed (children q.node)) → Distinct us → AllByRecursion (Given values page) (all_placed parent false us)
    → AllByRecursion (IsPages values page) (listed us)
pages_children values page parent q us H e h f d s =
    let vs : Trees = all_put_back values page us in
    each_pages values page parent q vs us H e
    (stand_alike (children q.node) vs h (all_shown page (children q.node) vs f (hidden_there values page parent us s)))
    (all_picked vs (back_distinct values page us d)) s
