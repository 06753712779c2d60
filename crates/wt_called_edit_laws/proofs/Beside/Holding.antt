-- A node of the page round whatever calls give: sent as it is, with what is written for the groups in it, it is unchanged.
use Rattle.std.proofs.Common.{◌≡◌, ℕ, Bool, true, false, Option, List, refl, sym, ap, ◌∙◌}
use Rattle.std.specs.Prelude.{◌||◌, if◌then◌else◌}
use Rattle.wt_tree.specs.declared.kind.Kind.{Kind}
use Rattle.wt_tree.specs.Kinds.{showing}
use Rattle.wt_tree.specs.Plain.{Plains, ended, shown_before, plain_before, plains_before}
use Rattle.wt_tree.specs.Tiling.{is_group}
use Rattle.wt_tree.specs.Tree.{Label, Tree, tree, Trees, none, more, label}
use Rattle.wt_original.specs.Kept.{Kept, kept_with, kept_nodes}
use Rattle.wt_original.specs.Page.{page_of, TellsSame, is_unchanged, node_or, restored, restored_all}
use Rattle.wt_typed_blocks.specs.Sent.{IsSentAsIs, StandsAsIs, AllStandAsIs}
use Rattle.wt_typed_blocks.proofs.SentGroups.{in_group}
use Rattle.wt_typed_blocks.proofs.EditedShows.{shown_same}
use Rattle.wt_beside_laws.proofs.SentPieces.{same_face}
use Rattle.wt_called_edit_laws.specs.FoundGroups.{IsFoundAs, HasFoundGroups, HaveFoundGroups}

-- with children that show something else
node_shows : (l m : Label) (us : Trees) (f : Plains → Plains) (rest : Plains) → IsSentAsIs l m → ((ps : Plains) → plains_before us ps ≡ f ps)
    → plain_before (tree m us) rest ≡ shown_before (showing l.kind) l f rest
node_shows l m us f rest h e =
    ap (λ (k : Kind). shown_before (showing k) m (λ ps. plains_before us ps) rest) h.kind
    ∙ shown_same (showing l.kind) l m (λ ps. plains_before us ps) f rest h.shown (same_face l m h) e

abbrev restored_by : Bool → List Kept → Label → Trees → Tree
restored_by b ks m us = if b then node_or (tree m us) (kept_with m.id ks) else tree m (restored_all ks us)

-- a group is put back as the page has it
group_back : (ks : List Kept) (l m : Label) (ts us : Trees) → IsSentAsIs l m → is_group l.kind ≡ true → IsFoundAs ks l ts → restored ks (tree m us) ≡ tree l ts
group_back ks l m ts us h e f =
    ap (λ (b : Bool). restored_by b ks m us) (ap is_group h.kind ∙ e)
    ∙ ap (λ (i : ℕ). node_or (tree m us) (kept_with i ks)) h.id
    ∙ ap (λ (o : Option Kept). node_or (tree m us) o) f.found
    ∙ f.node

-- what is no group shows the same round nodes that do
round_shows : (ks : List Kept) (l m : Label) (ts us : Trees) (rest : Plains) → StandsAsIs (tree l ts) (tree m us) → is_group l.kind ≡ false
    → (AllStandAsIs ts us → (ps : Plains) → plains_before (restored_all ks us) ps ≡ plains_before ts ps)
    → plain_before (restored ks (tree m us)) rest ≡ plain_before (tree l ts) rest
round_shows ks l m ts us rest h e f =
    ap (λ (b : Bool). plain_before (restored_by b ks m us) rest) (ap is_group h.0.kind ∙ e)
    ∙ in_group (is_group l.kind) h.1
    (λ t x. let no : true ≡ false = sym t ∙ e in absurd (cc))
    (λ n a. node_shows l m (restored_all ks us) (λ ps. plains_before ts ps) rest h.0 (f a))

mutual
  back_shows : (ks : List Kept) (t u : Tree) (rest : Plains) → StandsAsIs t u → HasFoundGroups ks t → plain_before (restored ks u) rest ≡ plain_before t rest
  back_shows ks (tree l ts) (tree m us) rest h g =
      in_group (is_group l.kind) g
      (λ e f. ap (λ (t : Tree). plain_before t rest) (group_back ks l m ts us h.0 e f))
      (λ e f. round_shows ks l m ts us rest h e (λ a ps. all_back_show ks ts us ps a f))

  all_back_show : (ks : List Kept) (ts us : Trees) (rest : Plains) → AllStandAsIs ts us → HaveFoundGroups ks ts
      → plains_before (restored_all ks us) rest ≡ plains_before ts rest
  all_back_show ks none none rest h g = refl
  all_back_show ks none (more u us) rest h g = absurd h
  all_back_show ks (more t ts) none rest h g = absurd h
  all_back_show ks (more t ts) (more u us) rest h g =
      ap (λ (ps : Plains). plain_before (restored ks u) ps) (all_back_show ks ts us rest h.1 g.1) ∙ back_shows ks t u (plains_before ts rest) h.0 g.0

back_kind : (ks : List Kept) (l m : Label) (ts us : Trees) → IsSentAsIs l m → is_group l.kind ≡ false → (label (restored ks (tree m us))).kind ≡ l.kind
back_kind ks l m ts us h e = ap (λ (b : Bool). (label (restored_by b ks m us)).kind) (ap is_group h.kind ∙ e) ∙ h.kind

or_true : (b : Bool) → (b || true) ≡ true
or_true true = refl
or_true false = refl

-- so it is unchanged
pub round_unchanged : (same : Tree → Tree → Bool) (block : Tree) (l m : Label) (ts us : Trees) → TellsSame same → StandsAsIs (tree l ts) (tree m us)
    → is_group l.kind ≡ false → HaveFoundGroups (kept_nodes block) ts → (f : IsFoundAs (kept_nodes block) l ts)
    → is_unchanged (page_of same block) f.kept (tree m us) ≡ true
round_unchanged same block l m ts us tells h e g f =
    let ks : List Kept = kept_nodes block in
    let now : Tree = restored ks (tree m us) in
    let is : same now (tree l ts) ≡ true =
    (tells now (tree l ts)).1 (back_kind ks l m ts us h.0 e, round_shows ks l m ts us ended h e (λ a ps. all_back_show ks ts us ps a g)) in
    ap (λ (t : Tree). is_group (label t).kind || same now t) f.node
    ∙ ap (λ (b : Bool). is_group l.kind || b) is
    ∙ or_true (is_group l.kind)
