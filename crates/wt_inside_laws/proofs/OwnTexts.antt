-- The texts of a paragraph or heading of a page's tree, outside of groups: each shows its source, and something, and no separator is among them.
use Rattle.std.proofs.Common.{arith, ◌≡◌, ◌⊎◌, ℕ, zero, suc, ◌<◌, ◌≤◌, true, false, None, List, [], ◌∷◌, ◌++◌, length, refl, sym, ap, ◌∙◌, subst, inl, inr}
use Rattle.std.specs.Prelude.{if◌then◌else◌}
use Rattle.std.specs.Str.{IsUtf8}
use Rattle.wt_tree.specs.declared.kind.Kind.{Kind}
use Rattle.wt_tree.specs.declared.kind.Kind.TheVariants as kind
use Rattle.wt_tree.specs.declared.row.Texts.{Texts}
use Rattle.wt_tree.specs.declared.row.Texts.TheVariants.{Page}
use Rattle.wt_tree.specs.declared.row.Writing.{Writing}
use Rattle.wt_tree.specs.declared.row.Writing.TheVariants.{AsText, AsVoid, RoundCharacter, RoundChildren, AsSection, Unwritten}
use Rattle.wt_tree.specs.EditShapes.{edit_shape}
use Rattle.wt_tree.specs.Kinds.{is_leaf, texts_of_kind, writing}
use Rattle.wt_tree.specs.Source.{flat, flat_of_all}
use Rattle.wt_tree.specs.Tiling.{is_group}
use Rattle.wt_tree.specs.Tree.{Label, Tree, tree, Trees, none, more, label}
use Rattle.wt_span.specs.declared.limits.TheConstants.{PAGE_BYTES}
use Rattle.wt_expand.specs.Work.{Pages}
use Rattle.wt_commands.specs.Answers.{refusal_of_page}
use Rattle.wt_link_spelling.specs.Spelling.{children_of}
use Rattle.wt_schema.specs.Data.{is_empty}
use Rattle.wt_schema.specs.Rows.{holds_page_text}
use Rattle.wt_schema.specs.Written.{shown_of, HasLeafKind, IsTextIn, IsWrittenGroup, is_childless, NodeIsWritten, IsCutIn, WrittenIn, AllWrittenIn}
use Rattle.wt_page_round_trip.proofs.Pages.{body_written}
use Rattle.wt_page_round_trip.proofs.Sectioned.{IsWrittenBody}
use Rattle.wt_called_edit_laws.specs.Groups.{called_tree}
use Rattle.wt_called_edit_laws.specs.RowBlocks.{IsReachedAt, IsReachedIn}
use Rattle.wt_inside_laws.specs.RetypedCalls.{OwnTextBy, AreOwnTexts}
use Rattle.wt_inside_laws.specs.TextEdits.{takes_text}
use Rattle.wt_inside_laws.proofs.Groups.{block_ungrouped}

-- ---- a text

some_own : (bs : List ℕ) → is_empty bs ≡ false → 0 < length bs
some_own [] e = absurd (cc)
some_own (b ∷ bs) e = omega arith

text_kind : (parent : Kind) (m : Label) → texts_of_kind parent ≡ Page → IsTextIn parent m → m.kind ≡ kind.Text
text_kind parent m e h =
    subst (λ (x : Texts). HasLeafKind x (if holds_page_text x then kind.Text else kind.Sep) m.kind) e h.kind

text_own : (parent : Kind) (m : Label) (us : Trees) → texts_of_kind parent ≡ Page → IsTextIn parent m → (flat (tree m us) ≡ m.shown) × (0 < length m.shown)
text_own parent m us e h =
    let text : m.kind ≡ kind.Text = text_kind parent m e h in
    let shown : m.shown ≡ m.own = h.shown ∙ ap (λ (j : Kind). shown_of j m.own) text in
    let some = some_own m.own h.some in
    let wide = ap length shown in (
      ap (λ (j : Kind). if is_leaf j then m.own else (m.opening ++ flat_of_all us ++ m.closing)) text ∙ sym shown,
      omega (arith, some, wide),
    )

child_by : (j : Kind) (k : ℕ) (parent : Kind) (m : Label) (us : Trees) (I G : Type 0) → m.kind ≡ j → texts_of_kind parent ≡ Page
    → NodeIsWritten (writing j) k parent m (is_childless us) I G → OwnTextBy (edit_shape j).inline m us
child_by kind.Sep k parent m us I G i e h = let no : kind.Text ≡ kind.Sep = sym (text_kind parent m e h.0) ∙ i in absurd (cc)
child_by kind.Text k parent m us I G i e h = text_own parent m us e h.0
child_by j k parent m us I G i e h = tt

children_own : (ts : Trees) (k : ℕ) (parent : Kind) → texts_of_kind parent ≡ Page → AllWrittenIn k parent ts → AreOwnTexts ts
children_own none k parent e h = tt
children_own (more (tree m us) ts) k parent e h = (
  child_by m.kind k parent m us (IsCutIn (texts_of_kind m.kind) us × AllWrittenIn (suc k) m.kind us) (IsWrittenGroup k parent m us) refl e h.0,
  children_own ts k parent e h.2,
)

-- ---- what is in a node

inside_of : (w : Writing) (k : ℕ) (parent : Kind) (l : Label) (ts : Trees) (Cut Inside : Type 0) → is_group l.kind ≡ false
    → NodeIsWritten w k parent l (is_childless ts) (Cut × Inside) (IsWrittenGroup k parent l ts) → (is_childless ts ≡ true) ⊎ Inside
inside_of AsText k parent l ts Cut Inside g h = inl h.1
inside_of AsVoid k parent l ts Cut Inside g h = inr h.4.1
inside_of RoundCharacter k parent l ts Cut Inside g h = inr h.4.1
inside_of RoundChildren k parent l ts Cut Inside g h = inr h.4.1
inside_of (AsSection n) k parent l ts Cut Inside g h = absurd h
inside_of Unwritten k parent l ts Cut Inside g h =
    let own = h.label in
    let no : true ≡ false = sym (ap is_group own.kind) ∙ g in absurd (cc)

-- ---- on the way to a block

abbrev Somewhere : Tree → Type 0
Somewhere u = (k : ℕ) × (parent : Kind) × WrittenIn k parent u

none_below : (i : ℕ) (is : List ℕ) (ts : Trees) (u : Tree) → is_childless ts ≡ true → IsReachedIn i is ts u → ⊥
none_below i is none u e r = r
none_below i is (more t ts) u e r = cc

mutual
  written_at : (p : List ℕ) (t u : Tree) (k : ℕ) (parent : Kind) → WrittenIn k parent t → IsReachedAt p t u → Somewhere u
  written_at [] t u k parent w r = (k, parent, subst (WrittenIn k parent) r w)
  written_at (i ∷ is) (tree l ts) u k parent w r =
      elim (inside_of (writing l.kind) k parent l ts (IsCutIn (texts_of_kind l.kind) ts) (AllWrittenIn (suc k) l.kind ts) r.0 w) [
        | inl e ↦ absurd (none_below i is ts u e r.1)
        | inr h ↦ written_in i is ts u (suc k) l.kind h r.1
      ]

  written_in : (i : ℕ) (is : List ℕ) (ts : Trees) (u : Tree) (k : ℕ) (parent : Kind) → AllWrittenIn k parent ts → IsReachedIn i is ts u → Somewhere u
  written_in i is none u k parent w r = absurd r
  written_in zero is (more t ts) u k parent w r = written_at is t u k parent w.0 r
  written_in (suc i) is (more t ts) u k parent w r = written_in i is ts u k parent w.2 r

-- ---- a block

block_texts : (k : Kind) → takes_text (edit_shape k).form ≡ true → texts_of_kind k ≡ Page
block_texts kind.Para e = refl
block_texts (kind.Heading n) e = refl
block_texts k e = absurd (cc)

without_children : (ts : Trees) → is_childless ts ≡ true → AreOwnTexts ts
without_children none e = tt
without_children (more t ts) e = absurd (cc)

block_own : (t : Tree) (k : ℕ) (parent : Kind) → takes_text (edit_shape (label t).kind).form ≡ true → WrittenIn k parent t → AreOwnTexts (children_of t)
block_own (tree l ts) k parent e w =
    elim (inside_of (writing l.kind) k parent l ts (IsCutIn (texts_of_kind l.kind) ts) (AllWrittenIn (suc k) l.kind ts) (block_ungrouped l.kind e) w) [
      | inl c ↦ without_children ts c
      | inr h ↦ children_own ts (suc k) l.kind (block_texts l.kind e) h
    ]

in_body : (b t : Tree) (p : List ℕ) → IsWrittenBody b → IsReachedAt p b t → takes_text (edit_shape (label t).kind).form ≡ true → AreOwnTexts (children_of t)
in_body (tree l ts) t [] w r e =
    let body : (label t).kind ≡ kind.Body = sym (ap (λ (x : Tree). (label x).kind) r) ∙ w.0 in
    let no : false ≡ true = sym (ap (λ (k : Kind). takes_text (edit_shape k).form) body) ∙ e in absurd (cc)
in_body (tree l ts) t (i ∷ is) w r e =
    let s : Somewhere t = written_in i is ts t 8 kind.Body w.2 r.1 in
    block_own t s.0 s.1 e s.2

-- of the page's tree
pub page_texts : (pages : Pages) (page path : List ℕ) (t : Tree) → IsUtf8 page → length page ≤ PAGE_BYTES → refusal_of_page pages page ≡ None
    → IsReachedAt path (called_tree pages page) t → takes_text (edit_shape (label t).kind).form ≡ true → AreOwnTexts (children_of t)
page_texts pages page path t utf8 le r at e = in_body (called_tree pages page) t path (body_written pages page utf8 (omega (arith, le)) r) at e
