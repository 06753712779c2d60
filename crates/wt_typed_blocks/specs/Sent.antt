-- What an editor sends for the nodes of a page: each as it is, or a paragraph or heading in which a text was typed, wherever it is.
use Rattle.std.specs.Prelude.{◌≡◌, ◌≢◌, ℕ, false, List, [], ◌∷◌}
use Rattle.std.specs.List.{AllByRecursion}
use Rattle.wt_tree.specs.declared.kind.Kind.{Kind}
use Rattle.wt_tree.specs.declared.kind.Kind.TheVariants as kind
use Rattle.wt_tree.specs.declared.kind.Mark.TheVariants as marks
use Rattle.wt_tree.specs.declared.kind.Showing.TheVariants.{Characters}
use Rattle.wt_tree.specs.Kinds.{showing}
use Rattle.wt_tree.specs.Plain.{Plains, ended, along, element, face, text_before, shown_before, plain_before}
use Rattle.wt_tree.specs.Tiling.{is_group, ids_of_all}
use Rattle.wt_tree.specs.Tree.{Label, Tree, tree, Trees, none, more}
use Rattle.wt_checks.specs.Elements.{written_for, all_read, signs_in}
use Rattle.wt_checks.specs.Groups.{have_mark}
use Rattle.wt_checks.specs.PutBack.{have_frame}
use Rattle.wt_difference.specs.Unedited.{GroupOr}

-- ---- a node that is sent as it is

-- It is of the page's kind, with its number, its attributes, its data and, where it shows characters, with these, and no mark is on it.
-- Where it says that it is, and its source, may be anything.
pub record IsSentAsIs (l m : Label) : Type 0 where
  pub kind : m.kind ≡ l.kind
  pub id : m.id ≡ l.id
  pub attrs : m.attrs ≡ l.attrs
  pub mw : m.mw ≡ l.mw
  pub shown : showing l.kind ≡ Characters → m.shown ≡ l.shown
  pub unmarked : m.mark ≡ marks.Nothing

-- What is sent for the nodes in a group, which has a number: the elements that are written for them, without numbers, marks, bodies and
-- sections.
pub record GroupIsSent (l : Label) (ts us : Trees) : Type 0 where
  pub numbered : l.id ≢ 0
  pub elements : signs_in (written_for ts) ≡ signs_in (all_read us)
  pub unnumbered : AllByRecursion (λ n. n ≡ 0) (ids_of_all us)
  pub unmarked : have_mark us ≡ false
  pub unframed : have_frame us ≡ false

-- and so is all that it holds, or it is a group
abbrev mutual
  pub StandsAsIs : Tree → Tree → Type 0
  StandsAsIs (tree l ts) (tree m us) = IsSentAsIs l m × GroupOr (is_group l.kind) (GroupIsSent l ts us) (AllStandAsIs ts us)

  pub AllStandAsIs : Trees → Trees → Type 0
  AllStandAsIs none none = Unit {0}
  AllStandAsIs none (more u us) = ⊥
  AllStandAsIs (more t ts) none = ⊥
  AllStandAsIs (more t ts) (more u us) = StandsAsIs t u × AllStandAsIs ts us

-- ---- a block in which a text was typed

-- a paragraph, or a heading of this level
pub data Block : Type 0 where
  paragraph : Block
  heading : ℕ → Block

abbrev pub kind_of : Block → Kind
kind_of paragraph = kind.Para
kind_of (heading n) = kind.Heading n

-- one text, and no node where nothing was typed
abbrev pub text_in : Label → List ℕ → Trees
text_in x [] = none
text_in x (b ∷ bs) = more (tree (record x { kind = kind.Text; id = 0; shown = b ∷ bs; mark = marks.Nothing }) none) none

-- ---- what is sent for a node

-- One that stays, in the page and as it is sent; or a block of the page with this label and these children, for which a block with the next
-- label is sent, marked, and in it this text with the last one; or a node of the page with the first label, which is sent with the second
-- one, and what is sent for its children.
mutual
  pub data Sent : Type 0 where
    stands : Tree → Tree → Sent
    typed : Block → Label → Trees → Label → Label → List ℕ → Sent
    holds : Label → Label → Sents → Sent

  pub data Sents : Type 0 where
    none_sent : Sents
    more_sent : Sent → Sents → Sents

-- in the page
abbrev mutual
  pub old_child : Sent → Tree
  old_child (stands t u) = t
  old_child (typed k l ts m x text) = tree (record l { kind = kind_of k }) ts
  old_child (holds l m ss) = tree l (old_children ss)

  pub old_children : Sents → Trees
  old_children none_sent = none
  old_children (more_sent s ss) = more (old_child s) (old_children ss)

-- as they are sent
abbrev mutual
  pub new_child : Sent → Tree
  new_child (stands t u) = u
  new_child (typed k l ts m x text) =
      tree (record m { kind = kind_of k; id = l.id; attrs = l.attrs; mark = marks.Content; mw = l.mw }) (text_in x text)
  new_child (holds l m ss) = tree m (new_children ss)

  pub new_children : Sents → Trees
  new_children none_sent = none
  new_children (more_sent s ss) = more (new_child s) (new_children ss)

-- What stays is sent as it is, a block in which a text was typed has a number, and a node in which such blocks are is sent as it is but for
-- these.
abbrev mutual
  pub IsSent : Sent → Type 0
  IsSent (stands t u) = StandsAsIs t u
  IsSent (typed k l ts m x text) = l.id ≢ 0
  IsSent (holds l m ss) = IsSentAsIs l m × AreSent ss

  pub AreSent : Sents → Type 0
  AreSent none_sent = Unit {0}
  AreSent (more_sent s ss) = IsSent s × AreSent ss

-- No block in which a text was typed is in a group.
abbrev mutual
  pub IsOutsideGroups : Sent → Type 0
  IsOutsideGroups (stands t u) = Unit {0}
  IsOutsideGroups (typed k l ts m x text) = Unit {0}
  IsOutsideGroups (holds l m ss) = (is_group l.kind ≡ false) × AreOutsideGroups ss

  pub AreOutsideGroups : Sents → Type 0
  AreOutsideGroups none_sent = Unit {0}
  AreOutsideGroups (more_sent s ss) = IsOutsideGroups s × AreOutsideGroups ss

-- ---- the body

-- in the page, with this label
abbrev pub old_body : Label → Sents → Tree
old_body l ss = tree (record l { kind = kind.Body; id = 0 }) (old_children ss)

-- as it is sent, where the second label is free
abbrev pub new_body : Label → Label → Sents → Tree
new_body l b ss = tree (record b { kind = kind.Body; id = 0; attrs = l.attrs; mark = marks.Nothing; mw = l.mw }) (new_children ss)

-- ---- what it shows

-- a child that stays shows what it does in the page, and a block in which a text was typed this text
abbrev mutual
  pub shows_before : Sent → Plains → Plains
  shows_before (stands t u) rest = plain_before t rest
  shows_before (typed k l ts m x text) rest = along (element (face (record l { kind = kind_of k })) (text_before text ended)) rest
  shows_before (holds l m ss) rest = shown_before (showing l.kind) l (λ ps. show_before ss ps) rest

  pub show_before : Sents → Plains → Plains
  show_before none_sent rest = rest
  show_before (more_sent s ss) rest = shows_before s (show_before ss rest)

abbrev pub all_show : Sents → Plains
all_show ss = show_before ss ended
