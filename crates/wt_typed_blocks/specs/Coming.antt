-- What an editor sends for the children of a body where blocks come and go: some of the page's nodes, each as it is, and new paragraphs.
use Rattle.std.specs.Prelude.{◌≡◌, ◌≢◌, ℕ, false, None, List, [], ◌∷◌}
use Rattle.wt_tree.specs.declared.kind.Kind.TheVariants as kind
use Rattle.wt_tree.specs.declared.kind.Mark.TheVariants as marks
use Rattle.wt_tree.specs.Plain.{Plains, ended, along, element, text_before, plain_before}
use Rattle.wt_tree.specs.Tree.{Label, Tree, tree, Trees, none, more, label}
use Rattle.wt_content.specs.declared.children.Holder.TheVariants as holder
use Rattle.wt_content.specs.Children.{is_space}
use Rattle.wt_slices.specs.Steps as step
use Rattle.wt_typed_blocks.specs.Sent.{StandsAsIs, text_in}

-- Before what follows: white space that is sent, a new paragraph with the first label, in which this text is sent with the second one, a node
-- of the page that stays, in the page and as it is sent, or a node of the page that isn't sent.
pub data Coming : Type 0 where
  no_more : Coming
  spaced : Label → Coming → Coming
  comes : Label → Label → List ℕ → Coming → Coming
  stays : Tree → Tree → Coming → Coming
  goes : Tree → Coming → Coming

abbrev pub white_space : Label → Tree
white_space x = tree (record x { kind = kind.Sep; id = 0; mark = marks.Nothing }) none

-- a new node has no number and no mark, and a paragraph has neither attributes nor data
abbrev pub new_paragraph : Label → Label → List ℕ → Tree
new_paragraph m x text = tree (record m { kind = kind.Para; id = 0; attrs = []; mark = marks.Nothing; mw = None }) (text_in x text)

-- in the page
abbrev pub page_children : Coming → Trees
page_children no_more = none
page_children (spaced x cs) = page_children cs
page_children (comes m x text cs) = page_children cs
page_children (stays t u cs) = more t (page_children cs)
page_children (goes t cs) = more t (page_children cs)

-- as they are sent
abbrev pub sent_children : Coming → Trees
sent_children no_more = none
sent_children (spaced x cs) = more (white_space x) (sent_children cs)
sent_children (comes m x text cs) = more (new_paragraph m x text) (sent_children cs)
sent_children (stays t u cs) = more u (sent_children cs)
sent_children (goes t cs) = sent_children cs

-- ---- the body, marked `children`

-- in the page, with this label
abbrev pub body_before : Label → Coming → Tree
body_before l cs = tree (record l { kind = kind.Body; id = 0 }) (page_children cs)

-- as it is sent, where the second label is free
abbrev pub body_sent : Label → Label → Coming → Tree
body_sent l b cs = tree (record b { kind = kind.Body; id = 0; attrs = l.attrs; mark = marks.Children; mw = l.mw }) (sent_children cs)

-- ---- what stays

-- it is sent as it is, has a number, and is no white space
pub record Stays (t u : Tree) : Type 0 where
  pub as_is : StandsAsIs t u
  pub numbered : (label t).id ≢ 0
  pub block : is_space (label t).kind ≡ false

abbrev pub AllStay : Coming → Type 0
AllStay no_more = Unit {0}
AllStay (spaced x cs) = AllStay cs
AllStay (comes m x text cs) = AllStay cs
AllStay (stays t u cs) = Stays t u × AllStay cs
AllStay (goes t cs) = AllStay cs

-- ---- the order in which they are listed

-- The next block that is sent is one of the page's, with another number than this, or there is none.
abbrev pub NextIsOther : ℕ → Coming → Type 0
NextIsOther n no_more = Unit {0}
NextIsOther n (spaced x cs) = NextIsOther n cs
NextIsOther n (comes m x text cs) = ⊥
NextIsOther n (stays t u cs) = (label t).id ≢ n
NextIsOther n (goes t cs) = NextIsOther n cs

-- What comes is listed directly after what stays before it, and so before what goes there.
abbrev pub AreListed : Coming → Type 0
AreListed no_more = Unit {0}
AreListed (spaced x cs) = AreListed cs
AreListed (comes m x text cs) = AreListed cs
AreListed (stays t u cs) = AreListed cs
AreListed (goes t cs) = NextIsOther (label t).id cs × AreListed cs

-- these, step by step
abbrev pub steps_of : Coming → List step.Step
steps_of no_more = []
steps_of (spaced x cs) = steps_of cs
steps_of (comes m x text cs) = step.comes (new_paragraph m x text) ∷ steps_of cs
steps_of (stays t u cs) = step.kept t u ∷ steps_of cs
steps_of (goes t cs) = step.passed_one holder.Body t ∷ steps_of cs

-- ---- what is shown

-- what stays as the page shows it, and each new paragraph with its text
abbrev pub coming_before : Coming → Plains → Plains
coming_before no_more rest = rest
coming_before (spaced x cs) rest = coming_before cs rest
coming_before (comes m x text cs) rest =
    along (element (record { kind = kind.Para; attrs = []; mw = None }) (text_before text ended)) (coming_before cs rest)
coming_before (stays t u cs) rest = plain_before t (coming_before cs rest)
coming_before (goes t cs) rest = coming_before cs rest

abbrev pub coming_shows : Coming → Plains
coming_shows cs = coming_before cs ended
