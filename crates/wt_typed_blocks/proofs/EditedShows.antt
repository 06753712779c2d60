-- What a body that is sent so shows.
use Rattle.std.proofs.Common.{◌≡◌, ◌≢◌, ℕ, Bool, true, false, List, [], ◌∷◌, refl, ap, ◌∙◌, subst}
use Rattle.std.specs.Prelude.{◌==◌, ◌||◌, not, if◌then◌else◌, Option}
use Rattle.std.specs.List.{AllByRecursion}
use Rattle.wt_tree.specs.declared.kind.Kind.{Kind}
use Rattle.wt_tree.specs.declared.kind.Kind.TheVariants as kind
use Rattle.wt_tree.specs.declared.kind.AttrName.{AttrName}
use Rattle.wt_tree.specs.declared.node.DataMw.{DataMw}
use Rattle.wt_tree.specs.declared.kind.Showing.{Showing}
use Rattle.wt_tree.specs.declared.kind.Showing.TheVariants.{Characters, Inside, Nothing, Element}
use Rattle.wt_tree.specs.Kinds.{showing}
use Rattle.wt_tree.specs.Plain.{Face, face, Plains, ended, along, element, text_before, shown_before, plain_before, plains_before}
use Rattle.wt_tree.specs.Opened.{without_sections}
use Rattle.wt_tree.specs.Tiling.{is_group, HasNoGroup, NoneIsGroup, InPreorder}
use Rattle.wt_tree.specs.Tree.{Label, Tree, tree, Trees, none, more}
use Rattle.wt_checks.specs.BareSections.{HasBareSections}
use Rattle.wt_checks.specs.Places.{Place, placed, all_placed, Page, page_of, is_content, parent_below}
use Rattle.wt_checks.proofs.Found.{Itself}
use Rattle.wt_checks.proofs.InOrder.{not_zero_kept}
use Rattle.wt_checks.proofs.Lookups.{each_split}
use Rattle.wt_checks.proofs.Sections.{AreAlike, are_alike, kept_found}
use Rattle.wt_difference.specs.Unedited.{GroupOr}
use Rattle.wt_visible.specs.Children.{shown_children, listed}
use Rattle.wt_visible.specs.Restored.{held_there, group_held, held_by, restored, all_restored, restored_from}
use Rattle.wt_typed_blocks.specs.Sent.{IsSentAsIs, StandsAsIs, AllStandAsIs, paragraph, heading}
use Rattle.wt_typed_blocks.specs.Edited.{Pieces, no_pieces, gone, written, kept, around, new_style, as_new, page_pieces, text_node, sent_pieces, PiecesStay, pieces_before, Edited, stays, edited, round, Edits, no_edits, more_edits, page_node, page_nodes, sent_node, sent_nodes, IsEdited, AreEdited, IsOutside, AreOutside, page_body, sent_body, edited_before, edits_before, edits_show}
use Rattle.wt_typed_blocks.proofs.SentGroups.{in_both, as_group, no_group, style_ungrouped, apart_groups, placed_appended, new_sent}
use Rattle.wt_typed_blocks.proofs.EditedKept.{found}

same_face : (l m : Label) → IsSentAsIs l m → face m ≡ face l
same_face l m s =
    let F : Kind → List (AttrName × List ℕ) → Option DataMw → Face = λ k xs d. record { kind = k; attrs = xs; mw = d } in
    ap (λ (k : Kind). F k m.attrs m.mw) s.kind ∙ ap (λ (xs : List (AttrName × List ℕ)). F l.kind xs m.mw) s.attrs ∙ ap (λ (d : Option DataMw). F l.kind l.attrs d) s.mw

pub shown_same : (s : Showing) (l m : Label) (f g : Plains → Plains) (rest : Plains) → (s ≡ Characters → m.shown ≡ l.shown) → face m ≡ face l
    → ((ps : Plains) → f ps ≡ g ps) → shown_before s m f rest ≡ shown_before s l g rest
shown_same Characters l m f g rest c e h = ap (λ (z : List ℕ). text_before z rest) (c refl)
shown_same Inside l m f g rest c e h = h rest
shown_same Nothing l m f g rest c e h = refl
shown_same Element l m f g rest c e h =
    ap (λ (a : Face). along (element a (f ended)) rest) e ∙ ap (λ (ps : Plains). along (element (face l) ps) rest) (h ended)

-- a node that is sent as it is, with children that show something else
node_shows : (l m : Label) (us : Trees) (f : Plains → Plains) (rest : Plains) → IsSentAsIs l m → ((ps : Plains) → plains_before us ps ≡ f ps)
    → plain_before (tree m us) rest ≡ shown_before (showing l.kind) l f rest
node_shows l m us f rest h e =
    ap (λ (k : Kind). shown_before (showing k) m (λ ps. plains_before us ps) rest) h.kind
    ∙ shown_same (showing l.kind) l m (λ ps. plains_before us ps) f rest h.shown (same_face l m h) e

-- ---- where the page's groups are

-- what a group holds is found by its number
abbrev mutual
  pub FindsGroups : Page → Tree → Type 0
  FindsGroups page (tree l ts) = GroupOr (is_group l.kind) ((us : Trees) → group_held page l.id us ≡ ts) (FindAllGroups page ts)

  FindAllGroups : Page → Trees → Type 0
  FindAllGroups page none = Unit {0}
  FindAllGroups page (more t ts) = FindsGroups page t × FindAllGroups page ts

abbrev FindInPieces : Page → Pieces → Type 0
FindInPieces page no_pieces = Unit {0}
FindInPieces page (gone t ps) = FindInPieces page ps
FindInPieces page (written x text ps) = FindInPieces page ps
FindInPieces page (kept t u ps) = FindsGroups page t × FindInPieces page ps
FindInPieces page (around l m is ps) = FindInPieces page is × FindInPieces page ps
FindInPieces page (new_style m is ps) = FindInPieces page is × FindInPieces page ps

abbrev mutual
  FindsIn : Page → Edited → Type 0
  FindsIn page (stays t u) = FindsGroups page t
  FindsIn page (edited k l m ps) = FindInPieces page ps
  FindsIn page (round l m ss) = FindAllIn page ss

  FindAllIn : Page → Edits → Type 0
  FindAllIn page no_edits = Unit {0}
  FindAllIn page (more_edits s ss) = FindsIn page s × FindAllIn page ss

-- where there is none, so they are
mutual
  pub none_to_find : (page : Page) (t : Tree) → HasNoGroup t → FindsGroups page t
  none_to_find page (tree l ts) h =
      no_group ((us : Trees) → group_held page l.id us ≡ ts) (is_group l.kind) h.0 (all_none_to_find page ts h.1)

  all_none_to_find : (page : Page) (ts : Trees) → NoneIsGroup ts → FindAllGroups page ts
  all_none_to_find page none h = tt
  all_none_to_find page (more t ts) h = (none_to_find page t h.0, all_none_to_find page ts h.1)

none_in_pieces : (page : Page) (ps : Pieces) → NoneIsGroup (page_pieces ps) → FindInPieces page ps
none_in_pieces page no_pieces h = tt
none_in_pieces page (gone t ps) h = none_in_pieces page ps h.1
none_in_pieces page (written x text ps) h = none_in_pieces page ps h
none_in_pieces page (kept t u ps) h = (none_to_find page t h.0, none_in_pieces page ps h.1)
none_in_pieces page (around l m is ps) h = (none_in_pieces page is h.0.1, none_in_pieces page ps h.1)
none_in_pieces page (new_style m is ps) h =
    let r = apart_groups (page_pieces is) (page_pieces ps) h in (none_in_pieces page is r.0, none_in_pieces page ps r.1)

mutual
  none_in : (page : Page) (s : Edited) → HasNoGroup (page_node s) → FindsIn page s
  none_in page (stays t u) h = none_to_find page t h
  none_in page (edited k l m ps) h = none_in_pieces page ps h.1
  none_in page (round l m ss) h = none_in_all page ss h.1

  none_in_all : (page : Page) (ss : Edits) → NoneIsGroup (page_nodes ss) → FindAllIn page ss
  none_in_all page no_edits h = tt
  none_in_all page (more_edits s ss) h = (none_in page s h.0, none_in_all page ss h.1)

-- and so where the page finds each node with a number by it
not_so : (b : Bool) → not b ≡ true → b ≡ false
not_so true e = absurd (cc)
not_so false e = refl

held_at : (page other : Page) (i : ℕ) (v : Bool) (l : Label) (ts us : Trees) → AreAlike page other → l.id ≢ 0
    → Itself other (record { node = tree l ts; parent = i; in_content = v }) → group_held page l.id us ≡ ts
held_at page other i v l ts us alike n it =
    let k : not (l.id == 0) ≡ true = not_zero_kept l.id n in
    ap (λ (b : Bool). if b then us else held_there (page l.id) us) (not_so (l.id == 0) k)
    ∙ ap (λ (o : Option Place). held_there o us) (kept_found page other (record { node = tree l ts; parent = i; in_content = v }) alike k ∙ it k)

mutual
  finds_groups : (page other : Page) (i : ℕ) (v : Bool) (t u : Tree) → AreAlike page other → StandsAsIs t u → AllByRecursion (Itself other) (placed i v t)
      → FindsGroups page t
  finds_groups page other i v (tree l ts) (tree m us) alike h it =
      as_group (is_group l.kind) h.1 (λ g vs. held_at page other i v l ts vs alike g.numbered it.0)
      (λ a. find_all_groups page other (parent_below i l.id) (v || is_content l.mark) ts us alike a it.1)

  find_all_groups : (page other : Page) (i : ℕ) (v : Bool) (ts us : Trees) → AreAlike page other → AllStandAsIs ts us
      → AllByRecursion (Itself other) (all_placed i v ts) → FindAllGroups page ts
  find_all_groups page other i v none none alike h it = tt
  find_all_groups page other i v none (more u us) alike h it = absurd h
  find_all_groups page other i v (more t ts) none alike h it = absurd h
  find_all_groups page other i v (more t ts) (more u us) alike h it =
      let s = each_split (Itself other) (placed i v t) (all_placed i v ts) it in
      (finds_groups page other i v t u alike h.0 s.0, find_all_groups page other i v ts us alike h.1 s.1)

find_pieces : (page other : Page) (i : ℕ) (v : Bool) (ps : Pieces) → AreAlike page other → PiecesStay ps
    → AllByRecursion (Itself other) (all_placed i v (page_pieces ps)) → FindInPieces page ps
find_pieces page other i v no_pieces alike h it = tt
find_pieces page other i v (gone t ps) alike h it =
    let s = each_split (Itself other) (placed i v t) (all_placed i v (page_pieces ps)) it in find_pieces page other i v ps alike h s.1
find_pieces page other i v (written x text ps) alike h it = find_pieces page other i v ps alike h it
find_pieces page other i v (kept t u ps) alike h it =
    let s = each_split (Itself other) (placed i v t) (all_placed i v (page_pieces ps)) it in
    (finds_groups page other i v t u alike h.0 s.0, find_pieces page other i v ps alike h.1 s.1)
find_pieces page other i v (around l m is ps) alike h it =
    let s = each_split (Itself other) (placed i v (tree l (page_pieces is))) (all_placed i v (page_pieces ps)) it in (
      find_pieces page other (parent_below i l.id) (v || is_content l.mark) is alike h.2 s.0.1,
      find_pieces page other i v ps alike h.3 s.1,
    )
find_pieces page other i v (new_style m is ps) alike h it =
    let s = each_split (Itself other) (all_placed i v (page_pieces is)) (all_placed i v (page_pieces ps))
    (subst (AllByRecursion (Itself other)) (placed_appended i v (page_pieces is) (page_pieces ps)) it) in
    (find_pieces page other i v is alike h.1 s.0, find_pieces page other i v ps alike h.2 s.1)

mutual
  finds_in : (page other : Page) (i : ℕ) (v : Bool) (s : Edited) → AreAlike page other → IsEdited s → AllByRecursion (Itself other) (placed i v (page_node s))
      → FindsIn page s
  finds_in page other i v (stays t u) alike h it = finds_groups page other i v t u alike h it
  finds_in page other i v (edited k l m ps) alike h it =
      find_pieces page other (parent_below i l.id) (v || is_content l.mark) ps alike h.1 it.1
  finds_in page other i v (round l m ss) alike h it = find_all_in page other (parent_below i l.id) (v || is_content l.mark) ss alike h.1 it.1

  find_all_in : (page other : Page) (i : ℕ) (v : Bool) (ss : Edits) → AreAlike page other → AreEdited ss
      → AllByRecursion (Itself other) (all_placed i v (page_nodes ss)) → FindAllIn page ss
  find_all_in page other i v no_edits alike h it = tt
  find_all_in page other i v (more_edits s ss) alike h it =
      let p = each_split (Itself other) (placed i v (page_node s)) (all_placed i v (page_nodes ss)) it in
      (finds_in page other i v s alike h.0 p.0, find_all_in page other i v ss alike h.1 p.1)

-- ---- what is sent shows the same

group_shows : (page : Page) (l m : Label) (ts us : Trees) (rest : Plains) → IsSentAsIs l m → is_group l.kind ≡ true → group_held page l.id us ≡ ts
    → plain_before (restored page (tree m us)) rest ≡ plain_before (tree l ts) rest
group_shows page l m ts us rest h e held =
    ap (λ (b : Bool). plain_before (tree m (held_by page b m.id us (all_restored page us))) rest) (ap is_group h.kind ∙ e)
    ∙ ap (λ (i : ℕ). plain_before (tree m (group_held page i us)) rest) h.id
    ∙ ap (λ vs. plain_before (tree m vs) rest) held
    ∙ node_shows l m ts (λ ps. plains_before ts ps) rest h (λ ps. refl)

holder_shows : (page : Page) (l m : Label) (us : Trees) (f : Plains → Plains) (rest : Plains) → IsSentAsIs l m → is_group l.kind ≡ false
    → ((ps : Plains) → plains_before (all_restored page us) ps ≡ f ps) → plain_before (restored page (tree m us)) rest ≡ shown_before (showing l.kind) l f rest
holder_shows page l m us f rest h g e =
    ap (λ (b : Bool). plain_before (tree m (held_by page b m.id us (all_restored page us))) rest) (ap is_group h.kind ∙ g)
    ∙ node_shows l m (all_restored page us) f rest h e

mutual
  pub shows_same : (page : Page) (t u : Tree) (rest : Plains) → StandsAsIs t u → FindsGroups page t → plain_before (restored page u) rest ≡ plain_before t rest
  shows_same page (tree l ts) (tree m us) rest h g =
      in_both (is_group l.kind) h.1 g (λ e s f. group_shows page l m ts us rest h.0 e (f us))
      (λ e a f. holder_shows page l m us (λ ps. plains_before ts ps) rest h.0 e (λ ps. all_show_same page ts us ps a f))

  all_show_same : (page : Page) (ts us : Trees) (rest : Plains) → AllStandAsIs ts us → FindAllGroups page ts
      → plains_before (all_restored page us) rest ≡ plains_before ts rest
  all_show_same page none none rest h g = refl
  all_show_same page none (more u us) rest h g = absurd h
  all_show_same page (more t ts) none rest h g = absurd h
  all_show_same page (more t ts) (more u us) rest h g =
      ap (λ (ps : Plains). plain_before (restored page u) ps) (all_show_same page ts us rest h.1 g.1)
      ∙ shows_same page t u (plains_before ts rest) h.0 g.0

text_shows : (page : Page) (x : Label) (text : List ℕ) (us : Trees) (rest : Plains)
    → plains_before (all_restored page (text_node x text us)) rest ≡ text_before text (plains_before (all_restored page us) rest)
text_shows page x [] us rest = refl
text_shows page x (c ∷ cs) us rest = refl

pieces_show : (page : Page) (ps : Pieces) (rest : Plains) → PiecesStay ps → FindInPieces page ps
    → plains_before (all_restored page (sent_pieces ps)) rest ≡ pieces_before ps rest
pieces_show page no_pieces rest h g = refl
pieces_show page (gone t ps) rest h g = pieces_show page ps rest h g
pieces_show page (written x text ps) rest h g =
    text_shows page x text (sent_pieces ps) rest ∙ ap (text_before text) (pieces_show page ps rest h g)
pieces_show page (kept t u ps) rest h g =
    ap (λ (qs : Plains). plain_before (restored page u) qs) (pieces_show page ps rest h.1 g.1)
    ∙ shows_same page t u (pieces_before ps rest) h.0 g.0
pieces_show page (around l m is ps) rest h g =
    ap (λ (qs : Plains). plain_before (restored page (tree m (sent_pieces is))) qs) (pieces_show page ps rest h.3 g.1)
    ∙ holder_shows page l m (sent_pieces is) (λ qs. pieces_before is qs) (pieces_before ps rest) h.1 (style_ungrouped l.kind h.0)
    (λ qs. pieces_show page is qs h.2 g.0)
pieces_show page (new_style m is ps) rest h g =
    ap (λ (qs : Plains). plain_before (restored page (tree (as_new m) (sent_pieces is))) qs) (pieces_show page ps rest h.2 g.1)
    ∙ holder_shows page (as_new m) (as_new m) (sent_pieces is) (λ qs. pieces_before is qs) (pieces_before ps rest) (new_sent m) (style_ungrouped m.kind h.0)
    (λ qs. pieces_show page is qs h.1 g.0)

mutual
  child_shows : (page : Page) (s : Edited) (rest : Plains) → IsEdited s → IsOutside s → FindsIn page s
      → plain_before (restored page (sent_node s)) rest ≡ edited_before s rest
  child_shows page (stays t u) rest h o g = shows_same page t u rest h g
  child_shows page (edited paragraph l m ps) rest h o g =
      ap (λ (qs : Plains). along (element (face (record l { kind = kind.Para })) qs) rest) (pieces_show page ps ended h.1 g)
  child_shows page (edited (heading n) l m ps) rest h o g =
      ap (λ (qs : Plains). along (element (face (record l { kind = kind.Heading n })) qs) rest) (pieces_show page ps ended h.1 g)
  child_shows page (round l m ss) rest h o g =
      holder_shows page l m (sent_nodes ss) (λ ps. edits_before ss ps) rest h.0 o.0 (λ ps. children_show page ss ps h.1 o.1 g)

  children_show : (page : Page) (ss : Edits) (rest : Plains) → AreEdited ss → AreOutside ss → FindAllIn page ss
      → plains_before (all_restored page (sent_nodes ss)) rest ≡ edits_before ss rest
  children_show page no_edits rest h o g = refl
  children_show page (more_edits s ss) rest h o g =
      ap (λ (ps : Plains). plain_before (restored page (sent_node s)) ps) (children_show page ss rest h.1 o.1 g.1)
      ∙ child_shows page s (edits_before ss rest) h.0 o.0 g.0

-- of a page that has these nodes, in sections or not
pub page_shows : (t : Tree) (l b : Label) (ss : Edits) → HasBareSections t → without_sections t ≡ page_body l ss → InPreorder (page_body l ss)
    → AreEdited ss → AreOutside ss → shown_children (restored_from t (sent_body l b ss)) ≡ listed (edits_show ss)
page_shows t l b ss bare w pre h o =
    let alike : AreAlike (page_of t) (page_of (page_body l ss)) = subst (λ (p : Tree). AreAlike (page_of t) (page_of p)) w (are_alike t bare) in
    ap listed (children_show (page_of t) ss ended h o
    (find_all_in (page_of t) (page_of (page_body l ss)) 0 (is_content l.mark) ss alike h (found l ss pre)))

-- where there is no group, of any page
mutual
  one_outside : (s : Edited) → HasNoGroup (page_node s) → IsOutside s
  one_outside (stays t u) h = tt
  one_outside (edited k l m ps) h = tt
  one_outside (round l m ss) h = (h.0, outside ss h.1)

  outside : (ss : Edits) → NoneIsGroup (page_nodes ss) → AreOutside ss
  outside no_edits h = tt
  outside (more_edits s ss) h = (one_outside s h.0, outside ss h.1)

pub body_shows : (t : Tree) (l b : Label) (ss : Edits) → AreEdited ss → NoneIsGroup (page_nodes ss)
    → shown_children (restored_from t (sent_body l b ss)) ≡ listed (edits_show ss)
body_shows t l b ss h g = ap listed (children_show (page_of t) ss ended h (outside ss g) (none_in_all (page_of t) ss g))
