-- A page takes any text in a typed paragraph in a cell: it is a page with blocks anywhere, and such an edit is one of such a page.
use Rattle.std.proofs.Common.{◌≡◌, ℕ, zero, suc, Option, Some, List, [], ◌∷◌, length, map, ◌≤◌, refl, sym, ap, ◌∙◌, subst}
use Rattle.std.specs.Str.{IsUtf8}
use Rattle.wt_span.specs.declared.limits.TheConstants.{PAGE_BYTES}
use Rattle.wt_devices.specs.Device.{Pages}
use Rattle.wt_tree.specs.declared.kind.Kind.TheVariants as kind
use Rattle.wt_tree.specs.Tree.{Label, Tree, tree, Trees, none, more, label}
use Rattle.wt_checks.specs.Kept.{children}
use Rattle.wt_commands.specs.Answers.{done, edit_to}
use Rattle.wt_typed_blocks.specs.Sent.{paragraph, Sent, stands, typed, holds, Sents, none_sent, more_sent, new_body}
use Rattle.wt_typed_blocks.specs.Typed.{Takes, TakesText as SentTakes, TakeTexts}
use Rattle.wt_text_edit_laws.specs.BlockEdits.{typed_as}
use Rattle.wt_text_edit_laws.specs.BlockSpots.{BlockSpot, spots_source}
use Rattle.wt_text_edit_laws.specs.Parts.{part_tree, HasNoGroups}
use Rattle.wt_text_edit_laws.specs.TextBlocks.{a_paragraph}
use Rattle.wt_text_edit_laws.proofs.Texts.TakesAnyText.{typed_again}
use Rattle.wt_called_edit_laws.specs.AnyBlocks.{AreSpots, typed_at, typed_among, typed_by, TypesOnly, AllTypeOnly, IsTextEdit, with_texts, new_page as texts_page, LeadsTo, LeadsAmong, AllLead}
use Rattle.wt_called_edit_laws.specs.AnyTexts.{TakesAnyTexts}
use Rattle.wt_called_edit_laws.specs.CellEdits.{IsKept, AllKept, TypesAt, TypesIn, CellPage, page_with, IsCellPage, new_page, IsCellEdit, Leads, LeadsIn, LeadsFrom, TakesText, own_sents}
use Rattle.wt_called_edit_laws.proofs.Cells.AnyPages.{any_take}
use Rattle.wt_called_edit_laws.proofs.Cells.CellSpots.{cell_spots}
use Rattle.wt_called_edit_laws.proofs.Cells.OwnEdits.{own_edit}
use Rattle.wt_called_edit_laws.proofs.Cells.PlaceTrees.{Framed}
use Rattle.wt_called_edit_laws.proofs.Cells.SpotFrames.{framed}
use Rattle.wt_called_edit_laws.proofs.Cells.SpotTrees.{same_self, over_self, label_over, over_tree}

-- ---- one block

abbrev pub one_spot : CellPage → List BlockSpot
one_spot c = record { before = c.before; block = a_paragraph; text = c.text } ∷ []

-- the path of the only one
abbrev pub OnePath : BlockSpot → List (List ℕ) → Tree → Type 0
OnePath s ps t = (p : List ℕ) × (ps ≡ p ∷ []) × LeadsTo s.block p t

one_path : (s : BlockSpot) (ps : List (List ℕ)) (t : Tree) → AllLead (s ∷ []) ps t → OnePath s ps t
one_path s [] t h = absurd h
one_path s (p ∷ []) t h = (p, refl, h.0)
one_path s (p ∷ q ∷ ps) t h = absurd h.1

-- ---- where it leads

mutual
  as_leads : (is : List ℕ) (t : Tree) → LeadsTo a_paragraph is t → Leads is t
  as_leads [] (tree l ts) h = h
  as_leads (i ∷ is) (tree l ts) h = as_leads_in i is ts h

  as_leads_in : (i : ℕ) (is : List ℕ) (ts : Trees) → LeadsAmong a_paragraph i is ts → LeadsIn i is ts
  as_leads_in i is none h = absurd h
  as_leads_in zero is (more t ts) h = as_leads is t h
  as_leads_in (suc i) is (more t ts) h = as_leads_in i is ts h

-- not to the body itself
below_body : (l : Label) (ts : Trees) (p : List ℕ) → l.kind ≡ kind.Body → LeadsTo a_paragraph p (tree l ts) → LeadsFrom p ts
below_body l ts [] e h = let f : kind.Body ≡ kind.Para = sym e ∙ h.0 in absurd (cc)
below_body l ts (i ∷ is) e h = as_leads_in i is ts h

leads_from : (ss : List BlockSpot) (behind : List ℕ) (p : List ℕ) → AreSpots ss behind → LeadsTo a_paragraph p (part_tree (spots_source ss behind))
    → LeadsFrom p (children (part_tree (spots_source ss behind)))
leads_from ss behind p h k =
    let f : Framed ss behind = framed ss behind h.parts in
    let is = over_tree ss ss behind f h (same_self ss) (over_self ss) in
    subst (λ t. LeadsFrom p (children t)) (sym is) (below_body (label_over f ss) _ p refl (subst (λ t. LeadsTo a_paragraph p t) is k))

-- ---- such an edit types this text at this path, and nothing elsewhere

kept_one : (s : Sent) → IsKept s → TypesOnly [] s × SentTakes s
kept_one (stands t u) h = (tt, tt)
kept_one (typed k l ts m x cs) h = absurd h
kept_one (holds l m ss) h = absurd h

kept_all : (ss : Sents) → AllKept ss → AllTypeOnly [] ss × TakeTexts ss
kept_all none_sent h = (tt, tt)
kept_all (more_sent s ss) h =
    let r = kept_one s h.0 in
    let q = kept_all ss h.1 in
    ((r.0, q.0), (r.1, q.1))

mutual
  one_types : (path text : List ℕ) (s : Sent) → IsUtf8 text → TypesAt path text s → TypesOnly (path ∷ []) s × (typed_at path s ≡ Some text) × SentTakes s
  one_types path text (stands t u) v h = absurd h
  one_types [] text (typed k l ts m x cs) v h =
      ((tt, subst IsUtf8 (sym h.2) v), ap (λ (bs : List ℕ). Some bs) h.2, subst (λ j. Takes j cs) (sym h.1) tt)
  one_types (i ∷ is) text (typed k l ts m x cs) v h = let e : i ∷ is ≡ [] = h.0 in absurd (cc)
  one_types [] text (holds l m ss) v h = absurd h
  one_types (i ∷ is) text (holds l m ss) v h = let r = all_type i is text ss v h in ((tt, r.0), r.1, r.2)

  all_type : (i : ℕ) (is text : List ℕ) (ss : Sents) → IsUtf8 text → TypesIn i is text ss
      → AllTypeOnly ((i ∷ is) ∷ []) ss × (typed_among i is ss ≡ Some text) × TakeTexts ss
  all_type i is text none_sent v h = absurd h
  all_type zero is text (more_sent s ss) v h =
      let r = one_types is text s v h.0 in
      let q = kept_all ss h.1 in
      ((r.0, q.0), r.1, (r.2, q.1))
  all_type (suc i) is text (more_sent s ss) v h =
      let r = kept_one s h.0 in
      let q = all_type i is text ss v h.1 in
      ((r.0, q.0), q.1, (r.1, q.2))

abbrev pub IsOneEdit : CellPage → List ℕ → List ℕ → Sents → Type 0
IsOneEdit c path text ss = IsTextEdit (one_spot c) c.behind (path ∷ []) ss × (typed_by ss path ≡ Some text)

pub one_edit : (c : CellPage) (path text : List ℕ) (ss : Sents) → IsCellEdit c path text ss → IsOneEdit c path text ss
one_edit c [] text ss e = absurd e.types
one_edit c (i ∷ is) text ss e =
    let r = all_type i is text ss e.utf8 e.types in
    (record { old = e.old; sent = e.sent; types = r.0; take = r.2 }, r.1)

-- so it is one at the only path, and makes the same page
abbrev pub IsThere : CellPage → List (List ℕ) → List ℕ → Sents → Type 0
IsThere c paths text ss = IsTextEdit (one_spot c) c.behind paths ss × (texts_page (one_spot c) c.behind paths ss ≡ new_page c text)

abbrev pub CellPath : CellPage → List (List ℕ) → Type 0
CellPath c paths = OnePath (record { before = c.before; block = a_paragraph; text = c.text }) paths (part_tree (page_with c c.text))

pub cell_path : (c : CellPage) (paths : List (List ℕ)) → AllLead (one_spot c) paths (part_tree (page_with c c.text)) → CellPath c paths
cell_path c paths h = one_path (record { before = c.before; block = a_paragraph; text = c.text }) paths (part_tree (page_with c c.text)) h

pub cell_leads : (c : CellPage) (paths : List (List ℕ)) (o : CellPath c paths) → IsCellPage c → LeadsFrom o.0 (children (part_tree (page_with c c.text)))
cell_leads c paths o h = leads_from (one_spot c) c.behind o.0 (cell_spots c h) o.2

pub there : (c : CellPage) (paths : List (List ℕ)) (o : CellPath c paths) (text : List ℕ) (ss : Sents) → IsCellEdit c o.0 text ss → IsThere c paths text ss
there c paths o text ss e =
    let r : IsOneEdit c o.0 text ss = one_edit c o.0 text ss e in
    let typed : map (typed_by ss) paths ≡ Some text ∷ [] = ap (map (typed_by ss)) o.1 ∙ ap (λ (p : Option (List ℕ)). p ∷ []) r.1 in (
      subst (λ ps. IsTextEdit (one_spot c) c.behind ps ss) (sym o.1) r.0,
      ap (λ os. spots_source (with_texts (one_spot c) os) c.behind) typed,
    )

-- ---- and is taken

-- what is known of the page
abbrev pub taken : (c : CellPage) → IsCellPage c → TakesAnyTexts (one_spot c) c.behind
taken c h = any_take (one_spot c) c.behind (cell_spots c h)

abbrev pub own_path : (c : CellPage) (h : IsCellPage c) → CellPath c (taken c h).paths
own_path c h = cell_path c (taken c h).paths (taken c h).lead

abbrev pub path_of : (c : CellPage) → IsCellPage c → List ℕ
path_of c h = (own_path c h).0

pub path_leads : (c : CellPage) (h : IsCellPage c) → LeadsFrom (path_of c h) (children (part_tree (page_with c c.text)))
path_leads c h = cell_leads c (taken c h).paths (own_path c h) h

pub at_path : (c : CellPage) (h : IsCellPage c) (text : List ℕ) (ss : Sents) → IsCellEdit c (path_of c h) text ss → IsThere c (taken c h).paths text ss
at_path c h text ss e = there c (taken c h).paths (own_path c h) text ss e

takes_text : (c : CellPage) (h : IsCellPage c) (pages : Pages) (b : Label) (text : List ℕ) (ss : Sents) → IsCellEdit c (path_of c h) text ss
    → length (new_page c text) ≤ PAGE_BYTES
    → edit_to pages (page_with c c.text) (new_body (label (part_tree (page_with c c.text))) b ss) ≡ done (new_page c text)
takes_text c h pages b text ss e le =
    let at = at_path c h text ss e in
    (taken c h).takes pages b ss at.0 (subst (λ page. length page ≤ PAGE_BYTES) (sym at.1) le) ∙ ap done at.1

pub takes_any : (c : CellPage) → IsCellPage c → TakesText c
takes_any c h = record { path = path_of c h; leads = path_leads c h; takes = takes_text c h }

-- ---- and it is such a page again

pub again : (c : CellPage) (text : List ℕ) → IsCellPage c → IsUtf8 text
    → IsCellPage (record { before = c.before; text = typed_as paragraph c.text text; behind = c.behind })
again c text h u =
    let ts : Trees = children (part_tree (page_with c c.text)) in
    let m : Label = label (part_tree (page_with c c.text)) in
    let ss : Sents = own_sents (path_of c h) m text ts in
    let e : IsCellEdit c (path_of c h) text ss = own_edit c (path_of c h) m text h.ungrouped (path_leads c h) u in
    let new : AreSpots (with_texts (one_spot c) (map (typed_by ss) (taken c h).paths)) c.behind = (taken c h).again ss (at_path c h text ss e).0 in
    record {
      stands = h.stands;
      follows = h.follows;
      before_utf8 = h.before_utf8;
      behind_utf8 = h.behind_utf8;
      calls_nothing = h.calls_nothing;
      in_cell = h.in_cell;
      is_typed = typed_again c.text text u;
      ungrouped = subst HasNoGroups (at_path c h text ss e).1 new.ungrouped;
    }
