-- Each child of a page's node is found by its number, and only texts and separators have none.
use Rattle.std.proofs.Common.{◌≡◌, ◌≢◌, ◌<◌, ℕ, Bool, true, false, List, [], ◌∷◌, ◌++◌, map, refl, sym, ap, ◌∙◌, subst, arith}
use Rattle.std.specs.Prelude.{◌==◌, ◌||◌, not, if◌then◌else◌, filter, Option, Some}
use Rattle.std.specs.List.{AllByRecursion}
use Rattle.wt_tree.specs.declared.kind.Kind.{Kind}
use Rattle.wt_tree.specs.declared.kind.Kind.TheVariants as kind
use Rattle.wt_tree.specs.Kinds.{is_numbered, writing}
use Rattle.wt_tree.specs.Opened.{opened}
use Rattle.wt_tree.specs.Tiling.{is_group, numbers, numbers_of_all, ids, ids_of_all, others, others_of_all}
use Rattle.wt_tree.specs.Tree.{Tree, tree, Trees, none, more, label, listed}
use Rattle.wt_checks.specs.Kept.{children}
use Rattle.wt_checks.specs.Places.{Place, placed, all_placed, places, number, kind_at, is_kept, is_body, is_content, numbered, Page, page_of, parent_below}
use Rattle.wt_checks.specs.PutBack.{is_frame, has_frame, have_frame, IsOneBody}
use Rattle.wt_checks.specs.Tokens.{is_text}
use Rattle.wt_checks.proofs.Frames.{no_frame, IsBare, bare_places, bare_root}
use Rattle.wt_checks.proofs.InOrder.{Increasing, Above, kept_not_zero, not_zero_kept, zero_of, test_equal, test_other, same_by}
use Rattle.wt_checks.proofs.Lookups.{each_split, each_join, AllZero, NoZero}
use Rattle.wt_checks.proofs.Repeated.{or_false}

-- ---- a node with a number is the one that is found by it

abbrev pub Itself : Page → Place → Type 0
Itself page p = is_kept p ≡ true → page (number p) ≡ Some p

above_step : (k : Bool) (m : ℕ) (p : Place) (qs : List Place) → k ≡ true → Above m (map number (if k then p ∷ qs else qs)) → m < number p
above_step true m p qs e h = h.0
above_step false m p qs e h = absurd (cc)

above_rest : (k : Bool) (m : ℕ) (p : Place) (qs : List Place) → Above m (map number (if k then p ∷ qs else qs)) → Above m (map number qs)
above_rest true m p qs h = h.1
above_rest false m p qs h = h

-- kept nodes behind a node have other numbers
others_above : (m n : ℕ) (ps : List Place) → m ≡ n → Above m (map number (filter is_kept ps)) → AllByRecursion (λ r. is_kept r ≡ true → n ≢ number r) ps
others_above m n [] e h = tt
others_above m n (p ∷ ps) e h = (
  λ k s. let lt : m < number p = above_step (is_kept p) m p (filter is_kept ps) k h in absurd (omega (arith, lt, e, s)),
  others_above m n ps e (above_rest (is_kept p) m p (filter is_kept ps) h),
)

others_zero : (n : ℕ) (ps : List Place) → n ≡ 0 → AllByRecursion (λ r. is_kept r ≡ true → n ≢ number r) ps
others_zero n [] e = tt
others_zero n (p ∷ ps) e = (λ k s. kept_not_zero (number p) k (sym s ∙ e), others_zero n ps e)

others_behind : (k : Bool) (p : Place) (ps : List Place) → is_kept p ≡ k → Increasing (map number (if k then p ∷ filter is_kept ps else filter is_kept ps))
    → AllByRecursion (λ r. is_kept r ≡ true → number p ≢ number r) ps × Increasing (map number (filter is_kept ps))
others_behind true p ps e h = (others_above (number p) (number p) ps refl h.0, h.1)
others_behind false p ps e h = (others_zero (number p) ps (zero_of (number p) e), h)

found_later : (p : Place) (all ps : List Place) → AllByRecursion (λ r. is_kept r ≡ true → number p ≢ number r) ps
    → AllByRecursion (Itself (λ n. numbered n all)) ps → AllByRecursion (Itself (λ n. numbered n (p ∷ all))) ps
found_later p all [] d h = tt
found_later p all (r ∷ ps) d h = (
  λ k. ap (λ b. if b then Some p else numbered (number r) all) (test_other (number p) (number r) (d.0 k)) ∙ h.0 k,
  found_later p all ps d.1 h.1,
)

pub each_itself : (ps : List Place) → Increasing (map number (filter is_kept ps)) → AllByRecursion (Itself (λ n. numbered n ps)) ps
each_itself [] h = tt
each_itself (p ∷ ps) h =
    let o = others_behind (is_kept p) p ps refl h in (
      λ k. ap (λ b. if b then Some p else numbered (number p) ps) (test_equal (number p) (number p) refl),
      found_later p ps ps o.0 (each_itself ps o.1),
    )

-- ---- what is found has what all places have

found_by : (P : Place → Type 0) (n : ℕ) (p q : Place) (rest : Option Place) (b : Bool) → (number p == n) ≡ b → P p
    → (rest ≡ Some q → P q × (number q ≡ n)) → (if b then Some p else rest) ≡ Some q → P q × (number q ≡ n)
found_by P n p q rest true e h f s = let d : p ≡ q = cc in (subst P d h, ap number (sym d) ∙ same_by (number p) n e)
found_by P n p q rest false e h f s = f s

pub found_has : (P : Place → Type 0) (n : ℕ) (q : Place) (ps : List Place) → AllByRecursion P ps → numbered n ps ≡ Some q → P q × (number q ≡ n)
found_has P n q [] h e = absurd (cc)
found_has P n q (p ∷ ps) h e = found_by P n p q (numbered n ps) (number p == n) refl h.0 (λ s. found_has P n q ps h.1 s) e

-- ---- children

-- the page finds this node by its number, if it has one
abbrev pub Found : Page → Tree → Type 0
Found page t = (label t).id ≢ 0 → (r : Place) × (page (label t).id ≡ Some r) × (r.node ≡ t)

mutual
  pub children_found : (page : Page) (parent : ℕ) (within : Bool) (t : Tree) → AllByRecursion (Itself page) (placed parent within t)
      → AllByRecursion (λ q. AllByRecursion (Found page) (listed (children q.node))) (placed parent within t)
  children_found page parent within (tree l ts) h = (
    found_children page (parent_below parent l.id) (within || is_content l.mark) ts h.1,
    all_children_found page (parent_below parent l.id) (within || is_content l.mark) ts h.1,
  )

  all_children_found : (page : Page) (parent : ℕ) (within : Bool) (ts : Trees) → AllByRecursion (Itself page) (all_placed parent within ts)
      → AllByRecursion (λ q. AllByRecursion (Found page) (listed (children q.node))) (all_placed parent within ts)
  all_children_found page parent within none h = tt
  all_children_found page parent within (more t ts) h =
      let s = each_split (Itself page) (placed parent within t) (all_placed parent within ts) h in
      each_join (λ q. AllByRecursion (Found page) (listed (children q.node))) (placed parent within t) (all_placed parent within ts)
      (children_found page parent within t s.0) (all_children_found page parent within ts s.1)

  found_children : (page : Page) (parent : ℕ) (within : Bool) (ts : Trees) → AllByRecursion (Itself page) (all_placed parent within ts)
      → AllByRecursion (Found page) (listed ts)
  found_children page parent within none h = tt
  found_children page parent within (more t ts) h =
      let s = each_split (Itself page) (placed parent within t) (all_placed parent within ts) h in
      (found_child page parent within t s.0, found_children page parent within ts s.1)

  found_child : (page : Page) (parent : ℕ) (within : Bool) (t : Tree) → AllByRecursion (Itself page) (placed parent within t) → Found page t
  found_child page parent within (tree l ts) h = λ z. (record { node = tree l ts; parent = parent; in_content = within }, h.0 (not_zero_kept l.id z), refl)

-- ---- and only texts and separators have no number

-- a node of a page is neither a body nor a section, and has a number where its kind has one
pub record IsKnown (t : Tree) : Type 0 where
  pub other : is_frame (label t).kind ≡ false
  pub has : is_numbered (label t).kind ≡ true → (label t).id ≢ 0

-- what is known of the children of a page's node: of one without a number, which may stand in a group, nothing
abbrev pub KnownChildren : Place → Type 0
KnownChildren q = is_kept q ≡ true → is_group (kind_at q) ≡ false → AllByRecursion IsKnown (listed (children q.node))

-- in a group nothing has a number
mutual
  unkept : (parent : ℕ) (within : Bool) (t : Tree) → AllZero (ids t) → AllByRecursion KnownChildren (placed parent within t)
  unkept parent within (tree l ts) z = (
    λ k. absurd (kept_not_zero l.id k z.0),
    all_unkept (parent_below parent l.id) (within || is_content l.mark) ts z.1,
  )

  all_unkept : (parent : ℕ) (within : Bool) (ts : Trees) → AllZero (ids_of_all ts) → AllByRecursion KnownChildren (all_placed parent within ts)
  all_unkept parent within none z = tt
  all_unkept parent within (more t ts) z =
      let y = each_split (λ n. n ≡ 0) (ids t) (ids_of_all ts) z in
      each_join KnownChildren (placed parent within t) (all_placed parent within ts) (unkept parent within t y.0) (all_unkept parent within ts y.1)

-- the numbers of what a node holds
pub record Inner (g : Bool) (ts : Trees) : Type 0 where
  pub in_group : g ≡ true → AllZero (ids_of_all ts)
  pub outside : g ≡ false → AllZero (others_of_all ts) × NoZero (numbers_of_all ts)

pub inner_by : (n g : Bool) (id : ℕ) (ts : Trees) → AllZero ((if n then [] else id ∷ []) ++ (if g then ids_of_all ts else others_of_all ts))
    → NoZero ((if n then id ∷ [] else []) ++ (if g then [] else numbers_of_all ts)) → Inner g ts
inner_by true true id ts z o = record { in_group = λ e. z; outside = λ e. absurd (cc) }
inner_by true false id ts z o = record { in_group = λ e. absurd (cc); outside = λ e. (z, o.1) }
inner_by false true id ts z o = record { in_group = λ e. z.1; outside = λ e. absurd (cc) }
inner_by false false id ts z o = record { in_group = λ e. absurd (cc); outside = λ e. (z.1, o) }

pub own_by : (n : Bool) (id : ℕ) (ms : List ℕ) → NoZero ((if n then id ∷ [] else []) ++ ms) → n ≡ true → id ≢ 0
own_by true id ms o e = o.0
own_by false id ms o e = absurd (cc)

known_children : (ts : Trees) → AllZero (others_of_all ts) → NoZero (numbers_of_all ts) → have_frame ts ≡ false → AllByRecursion IsKnown (listed ts)
known_children none z o b = tt
known_children (more (tree l us) ts) z o b =
    let y = each_split (λ n. n ≡ 0) (others (tree l us)) (others_of_all ts) z in
    let p = each_split (λ n. n ≢ 0) (numbers (tree l us)) (numbers_of_all ts) o in
    let c = or_false (is_frame l.kind || have_frame us) (have_frame ts) b in
    let d = or_false (is_frame l.kind) (have_frame us) c.0 in (
      record { other = d.0; has = own_by (is_numbered l.kind) l.id (if is_group l.kind then [] else numbers_of_all us) p.0 },
      known_children ts y.1 p.1 c.1,
    )

below_by : (g : Bool) (parent : ℕ) (within : Bool) (ts : Trees) → Inner g ts
    → (AllZero (others_of_all ts) → NoZero (numbers_of_all ts) → AllByRecursion KnownChildren (all_placed parent within ts))
    → AllByRecursion KnownChildren (all_placed parent within ts)
below_by true parent within ts i f = all_unkept parent within ts (i.in_group refl)
below_by false parent within ts i f = let w = i.outside refl in f w.0 w.1

mutual
  all_known_below : (parent : ℕ) (within : Bool) (ts : Trees) → AllZero (others_of_all ts) → NoZero (numbers_of_all ts) → have_frame ts ≡ false
      → AllByRecursion KnownChildren (all_placed parent within ts)
  all_known_below parent within none z o b = tt
  all_known_below parent within (more t ts) z o b =
      let y = each_split (λ n. n ≡ 0) (others t) (others_of_all ts) z in
      let p = each_split (λ n. n ≢ 0) (numbers t) (numbers_of_all ts) o in
      let c = or_false (has_frame t) (have_frame ts) b in
      each_join KnownChildren (placed parent within t) (all_placed parent within ts) (known_below parent within t y.0 p.0 c.0)
      (all_known_below parent within ts y.1 p.1 c.1)

  known_below : (parent : ℕ) (within : Bool) (t : Tree) → AllZero (others t) → NoZero (numbers t) → has_frame t ≡ false
      → AllByRecursion KnownChildren (placed parent within t)
  known_below parent within (tree l ts) z o b =
      let c = or_false (is_frame l.kind) (have_frame ts) b in
      let i = inner_by (is_numbered l.kind) (is_group l.kind) l.id ts z o in (
        λ k g. let w = i.outside g in known_children ts w.0 w.1 c.1,
        below_by (is_group l.kind) (parent_below parent l.id) (within || is_content l.mark) ts i
            (λ y p. all_known_below (parent_below parent l.id) (within || is_content l.mark) ts y p c.1),
      )

-- ---- the nodes of a page

pub body_no_group : (k : Kind) → is_body k ≡ true → is_group k ≡ false
body_no_group kind.Body e = refl
body_no_group k e = absurd (cc)

-- a place with a number is no body
abbrev pub NoBody : Place → Type 0
NoBody q = is_kept q ≡ true → is_body (kind_at q) ≡ false

mutual
  no_body : (parent : ℕ) (within : Bool) (t : Tree) → has_frame t ≡ false → AllByRecursion NoBody (placed parent within t)
  no_body parent within (tree l ts) b =
      let c = or_false (is_frame l.kind) (have_frame ts) b in
      (λ k. (no_frame l.kind c.0).0, no_bodies (parent_below parent l.id) (within || is_content l.mark) ts c.1)

  no_bodies : (parent : ℕ) (within : Bool) (ts : Trees) → have_frame ts ≡ false → AllByRecursion NoBody (all_placed parent within ts)
  no_bodies parent within none b = tt
  no_bodies parent within (more t ts) b =
      let c = or_false (has_frame t) (have_frame ts) b in
      each_join NoBody (placed parent within t) (all_placed parent within ts) (no_body parent within t c.0) (no_bodies parent within ts c.1)

all_no_body : (t : Tree) → (label t).id ≡ 0 → have_frame (children t) ≡ false → AllByRecursion NoBody (places t)
all_no_body (tree l ts) e b = (λ k. absurd (kept_not_zero l.id k e), no_bodies (parent_below 0 l.id) (is_content l.mark) ts b)

-- a place with a number is no text
abbrev pub NoText : Place → Type 0
NoText q = is_kept q ≡ true → is_text (writing (kind_at q)) ≡ false

mutual
  text_unkept : (parent : ℕ) (within : Bool) (t : Tree) → AllZero (ids t) → AllByRecursion NoText (placed parent within t)
  text_unkept parent within (tree l ts) z = (
    λ k. absurd (kept_not_zero l.id k z.0),
    texts_unkept (parent_below parent l.id) (within || is_content l.mark) ts z.1,
  )

  texts_unkept : (parent : ℕ) (within : Bool) (ts : Trees) → AllZero (ids_of_all ts) → AllByRecursion NoText (all_placed parent within ts)
  texts_unkept parent within none z = tt
  texts_unkept parent within (more t ts) z =
      let y = each_split (λ n. n ≡ 0) (ids t) (ids_of_all ts) z in
      each_join NoText (placed parent within t) (all_placed parent within ts) (text_unkept parent within t y.0) (texts_unkept parent within ts y.1)

numbered_element : (k : Kind) → is_numbered k ≡ true → is_text (writing k) ≡ false
numbered_element kind.Body n = absurd (cc)
numbered_element kind.Sep n = absurd (cc)
numbered_element kind.Text n = absurd (cc)
numbered_element k n = refl

own_element : (n : Bool) (k : Kind) (id : ℕ) (ms : List ℕ) → is_numbered k ≡ n → AllZero ((if n then [] else id ∷ []) ++ ms) → not (id == 0) ≡ true
    → is_text (writing k) ≡ false
own_element true k id ms e z h = numbered_element k e
own_element false k id ms e z h = absurd (kept_not_zero id h z.0)

inner_zero : (n : Bool) (id : ℕ) (ms : List ℕ) → AllZero ((if n then [] else id ∷ []) ++ ms) → AllZero ms
inner_zero true id ms z = z
inner_zero false id ms z = z.1

texts_by : (g : Bool) (parent : ℕ) (within : Bool) (ts : Trees) → AllZero (if g then ids_of_all ts else others_of_all ts)
    → (AllZero (others_of_all ts) → AllByRecursion NoText (all_placed parent within ts)) → AllByRecursion NoText (all_placed parent within ts)
texts_by true parent within ts z f = texts_unkept parent within ts z
texts_by false parent within ts z f = f z

mutual
  no_text : (parent : ℕ) (within : Bool) (t : Tree) → AllZero (others t) → AllByRecursion NoText (placed parent within t)
  no_text parent within (tree l ts) z = (
    λ k. own_element (is_numbered l.kind) l.kind l.id (if is_group l.kind then ids_of_all ts else others_of_all ts) refl z k,
    texts_by (is_group l.kind) (parent_below parent l.id) (within || is_content l.mark) ts
        (inner_zero (is_numbered l.kind) l.id (if is_group l.kind then ids_of_all ts else others_of_all ts) z)
        (λ y. no_texts (parent_below parent l.id) (within || is_content l.mark) ts y),
  )

  no_texts : (parent : ℕ) (within : Bool) (ts : Trees) → AllZero (others_of_all ts) → AllByRecursion NoText (all_placed parent within ts)
  no_texts parent within none z = tt
  no_texts parent within (more t ts) z =
      let y = each_split (λ n. n ≡ 0) (others t) (others_of_all ts) z in
      each_join NoText (placed parent within t) (all_placed parent within ts) (no_text parent within t y.0) (no_texts parent within ts y.1)

-- what is known of a place of the page
pub record PageNode (page : Page) (q : Place) : Type 0 where
  pub found : AllByRecursion (Found page) (listed (children q.node))
  pub known : KnownChildren q
  pub other : NoBody q
  pub element : NoText q
  pub bare : IsBare q

all_hold : (page : Page) (ps : List Place) → AllByRecursion (λ q. AllByRecursion (Found page) (listed (children q.node))) ps
    → AllByRecursion KnownChildren ps → AllByRecursion NoBody ps → AllByRecursion NoText ps → AllByRecursion IsBare ps
    → AllByRecursion (PageNode page) ps
all_hold page [] f k n t b = tt
all_hold page (p ∷ ps) f k n t b = (
  record { found = f.0; known = k.0; other = n.0; element = t.0; bare = b.0 },
  all_hold page ps f.1 k.1 n.1 t.1 b.1,
)

root_known : (t : Tree) → IsOneBody t → AllZero (others t) → NoZero (numbers t)
    → AllByRecursion KnownChildren (places t) × AllByRecursion IsKnown (listed (children t))
root_known (tree l ts) b z o =
    let i = inner_by (is_numbered l.kind) (is_group l.kind) l.id ts z o in
    let w = i.outside (body_no_group l.kind b.root) in
    let c = known_children ts w.0 w.1 b.alone in
    ((λ k g. c, all_known_below (parent_below 0 l.id) (is_content l.mark) ts w.0 w.1 b.alone), c)

-- the nodes of a page whose root is its only body
pub record PageNodes (t : Tree) : Type 0 where
  pub each : (n : ℕ) (q : Place) → page_of t n ≡ Some q → PageNode (page_of t) q × (number q ≡ n)
  pub root : page_of t 0 ≡ Some (record { node = t; parent = 0; in_content = false })
  pub known : AllByRecursion IsKnown (listed (children t))
  pub root_found : AllByRecursion (Found (page_of t)) (listed (children t))
  pub root_bare : opened (children t) ≡ children t

pub found_root : (t : Tree) → (label t).id ≡ 0 → page_of t 0 ≡ Some (record { node = t; parent = 0; in_content = false })
found_root (tree l ts) e =
    ap (λ b. if b then Some (record { node = tree l ts; parent = 0; in_content = false }) else numbered 0
    (all_placed (parent_below 0 l.id) (is_content l.mark) ts))
    (test_equal l.id 0 e)

first_found : (t : Tree) → AllByRecursion (λ q. AllByRecursion (Found (page_of t)) (listed (children q.node))) (places t)
    → AllByRecursion (Found (page_of t)) (listed (children t))
first_found (tree l ts) h = h.0

pub page_nodes : (t : Tree) → IsOneBody t → (label t).id ≡ 0 → AllZero (others t) → NoZero (numbers t)
    → Increasing (map number (filter is_kept (places t))) → PageNodes t
page_nodes t b e z o inc =
    let r = root_known t b z o in
    let f = children_found (page_of t) 0 false t (each_itself (places t) inc) in
    let all = all_hold (page_of t) (places t) f r.0
    (all_no_body t e b.alone)
    (no_text 0 false t z) (bare_places t b.alone) in
    record { each = λ n q s. found_has (PageNode (page_of t)) n q (places t) all s; root = found_root t e; known = r.1; root_found = first_found t f; root_bare = bare_root t b.alone }
