-- Each paragraph and each heading of a page's tree, outside of groups, is of the rows of the expanded page.
use Rattle.std.proofs.Common.{◌≡◌, inl, inr, ℕ, zero, suc, None, List, [], ◌∷◌, refl, sym, ap, subst}
use Rattle.std.specs.Str.{IsUtf8}
use Rattle.wt_tree.specs.declared.kind.Kind.{Kind}
use Rattle.wt_tree.specs.declared.kind.Kind.TheVariants as kind
use Rattle.wt_tree.specs.Tree.{Label, Tree, tree, Trees, none, more, label}
use Rattle.wt_span.specs.Items.{Item}
use Rattle.wt_inline.specs.ItemTree.{forest}
use Rattle.wt_checks.specs.Kept.{children}
use Rattle.wt_expand.specs.PageCalls.{expanded_page}
use Rattle.wt_expand.specs.Work.{Pages}
use Rattle.wt_commands.specs.Answers.{refusal_of_page}
use Rattle.wt_lines.specs.Lines.{full_lines}
use Rattle.wt_page.specs.Headings.{heading}
use Rattle.wt_page.specs.Rows.{Row, rows, rows_from}
use Rattle.wt_page.specs.Texts.{para}
use Rattle.wt_text_edit_laws.specs.ParagraphBetween.{blocks_in}
use Rattle.wt_called_edit_laws.specs.Groups.{called_tree}
use Rattle.wt_called_edit_laws.specs.RowBlocks.{IsTextBlock, IsReachedAt, IsReachedIn, IsOfRows, of_text, of_heading, StandsOnRows}
use Rattle.wt_called_edit_laws.proofs.PageBody.{page_body}
use Rattle.wt_called_edit_laws.proofs.AllTold.Found.{Housing, a_block, a_shell, another, housing_of, FoundAll}
use Rattle.wt_called_edit_laws.proofs.AllTold.FoundBlocks.{HoldsOfRows, body_found}
use Rattle.wt_called_edit_laws.proofs.AllTold.FoundTables.{width}
use Rattle.wt_called_edit_laws.proofs.AllTold.EachBlocks.{OfHousing, EachBlock, EachBlockIn}
use Rattle.wt_called_edit_laws.proofs.AllTold.Starts.{block_outside, held_at}
use Rattle.wt_called_edit_laws.proofs.AllTold.TreeBlocks.{blocks_stand}

-- ---- what holds of each holds of one

pub housed : (k : Kind) → IsTextBlock k → housing_of k ≡ a_block
housed k (inl e) = ap housing_of e
housed k (inr (n, e)) = ap housing_of e

-- a block is no node of another housing
own_of : (Q : Tree → Type 0) (v : Housing) (t : Tree) (ts : Trees) → v ≡ a_block → OfHousing v (Q t × EachBlockIn (λ (u : Tree). ⊥) ts) (EachBlockIn Q ts) (EachBlockIn (λ (u : Tree). ⊥) ts) → Q t
own_of Q a_block t ts e h = h.0
own_of Q a_shell t ts e h = absurd (cc)
own_of Q another t ts e h = absurd (cc)

none_inside : (v : Housing) (ts : Trees) → OfHousing v (⊥ × EachBlockIn (λ (u : Tree). ⊥) ts) (EachBlockIn (λ (u : Tree). ⊥) ts) (EachBlockIn (λ (u : Tree). ⊥) ts)
    → EachBlockIn (λ (u : Tree). ⊥) ts
none_inside a_block ts h = absurd h.0
none_inside a_shell ts h = h
none_inside another ts h = h

-- of the node itself
own_at : (Q : Tree → Type 0) (l : Label) (ts : Trees) (u : Tree) → EachBlock Q (tree l ts) → tree l ts ≡ u → IsTextBlock (label u).kind → Q (tree l ts)
own_at Q l ts u h e b =
    let k : housing_of l.kind ≡ a_block = housed l.kind (subst (λ (v : Tree). IsTextBlock (label v).kind) (sym e) b) in
    own_of Q (housing_of l.kind) (tree l ts) ts k (held_at Q l ts h (block_outside l.kind k)).1

mutual
  none_at : (is : List ℕ) (t u : Tree) → EachBlock (λ (v : Tree). ⊥) t → IsReachedAt is t u → IsTextBlock (label u).kind → ⊥
  none_at [] (tree l ts) u h e b = own_at (λ (v : Tree). ⊥) l ts u h e b
  none_at (i ∷ is) (tree l ts) u h e b = none_among i is ts u (none_inside (housing_of l.kind) ts (held_at (λ (v : Tree). ⊥) l ts h e.0).1) e.1 b

  none_among : (i : ℕ) (is : List ℕ) (ts : Trees) (u : Tree) → EachBlockIn (λ (v : Tree). ⊥) ts → IsReachedIn i is ts u → IsTextBlock (label u).kind → ⊥
  none_among i is none u h e b = e
  none_among zero is (more t ts) u h e b = none_at is t u h.0 e b
  none_among (suc i) is (more t ts) u h e b = none_among i is ts u h.1 e b

-- what is in a node is in no block, if a block is among it
below_each : (Q : Tree → Type 0) (v : Housing) (i : ℕ) (is : List ℕ) (t : Tree) (ts : Trees) (u : Tree)
    → OfHousing v (Q t × EachBlockIn (λ (x : Tree). ⊥) ts) (EachBlockIn Q ts) (EachBlockIn (λ (x : Tree). ⊥) ts) → IsReachedIn i is ts u → IsTextBlock (label u).kind
    → EachBlockIn Q ts
below_each Q a_block i is t ts u h e b = absurd (none_among i is ts u h.1 e b)
below_each Q a_shell i is t ts u h e b = h
below_each Q another i is t ts u h e b = absurd (none_among i is ts u h e b)

mutual
  each_at : (Q : Tree → Type 0) (is : List ℕ) (t u : Tree) → EachBlock Q t → IsReachedAt is t u → IsTextBlock (label u).kind → Q u
  each_at Q [] (tree l ts) u h e b = subst Q e (own_at Q l ts u h e b)
  each_at Q (i ∷ is) (tree l ts) u h e b =
      each_among Q i is ts u (below_each Q (housing_of l.kind) i is (tree l ts) ts u (held_at Q l ts h e.0).1 e.1 b) e.1 b

  pub each_among : (Q : Tree → Type 0) (i : ℕ) (is : List ℕ) (ts : Trees) (u : Tree) → EachBlockIn Q ts → IsReachedIn i is ts u → IsTextBlock (label u).kind → Q u
  each_among Q i is none u h e b = absurd e
  each_among Q zero is (more t ts) u h e b = each_at Q is t u h.0 e b
  each_among Q (suc i) is (more t ts) u h e b = each_among Q i is ts u h.1 e b

not_body : IsTextBlock kind.Body → ⊥
not_body (inl e) = absurd (cc)
not_body (inr (n, e)) = absurd (cc)

-- ---- each block of a page

rows_hold : (all : List Row) → HoldsOfRows (IsOfRows all) all
unfolding para heading
rows_hold all = record {
  texts = λ pre r rs post a t. of_text pre r rs post a.is a.in_cells a.before t a.behind refl refl;
  headings = λ pre r post is c e. of_heading pre r post is c e refl refl;
}

items_found : (xs : List Item) → FoundAll (IsOfRows (rows_from 0 (full_lines xs))) 0 (forest (blocks_in xs)) (width (rows_from 0 (full_lines xs)))
unfolding rows
items_found xs = body_found (IsOfRows (rows_from 0 (full_lines xs))) (full_lines xs) (rows_hold (rows_from 0 (full_lines xs)))

pub page_stands : (pages : Pages) (page : List ℕ) → IsUtf8 page → refusal_of_page pages page ≡ None
    → EachBlockIn (StandsOnRows pages page) (children (called_tree pages page))
page_stands pages page u e =
    let all : List Row = rows_from 0 (full_lines (expanded_page pages page).items) in
    blocks_stand (IsOfRows all) (StandsOnRows pages page) pages page (width all) u e
    (λ n before v behind whole clean h. record {
      stands = record { number = n; before = before; block = v; behind = behind; whole = whole; is = refl; clean = clean };
      by_rows = h;
    }) (items_found (expanded_page pages page).items)

-- the page itself is none
pub body_none : (pages : Pages) (page : List ℕ) (t : Tree) → IsUtf8 page → refusal_of_page pages page ≡ None → called_tree pages page ≡ t
    → IsTextBlock (label t).kind → ⊥
body_none pages page t u r e b =
    let k : (label (called_tree pages page)).kind ≡ kind.Body = (page_body pages page u r).kind in
    not_body (subst IsTextBlock k (subst (λ (v : Tree). IsTextBlock (label v).kind) (sym e) b))

pub below : (i : ℕ) (is : List ℕ) (t u : Tree) → IsReachedAt (i ∷ is) t u → IsReachedIn i is (children t) u
below i is (tree l ts) u e = e.1

pub block_on_rows : (pages : Pages) (page p : List ℕ) (t : Tree) → IsUtf8 page → refusal_of_page pages page ≡ None
    → IsReachedAt p (called_tree pages page) t → IsTextBlock (label t).kind → StandsOnRows pages page t
block_on_rows pages page [] t u r e b = absurd (body_none pages page t u r e b)
block_on_rows pages page (i ∷ is) t u r e b =
    each_among (StandsOnRows pages page) i is (children (called_tree pages page)) t (page_stands pages page u r) (below i is (called_tree pages page) t e) b
