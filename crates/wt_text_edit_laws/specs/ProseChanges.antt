-- Paragraphs that come into prose and go from it: what an editor sends, and the new page.
use Rattle.std.specs.Prelude.{ℕ, zero, suc, ◌+◌, Bool, true, false, List, [], ◌∷◌, ◌++◌, map, None}
use Rattle.std.specs.List.{AllByRecursion}
use Rattle.std.specs.Str.{IsUtf8}
use Rattle.wt_tree.specs.declared.kind.Kind.TheVariants as kind
use Rattle.wt_tree.specs.declared.kind.Mark.TheVariants as marks
use Rattle.wt_tree.specs.Tree.{Label, Tree, tree, Trees, none, more}
use Rattle.wt_checks.specs.Kept.{children}
use Rattle.wt_text_edit_laws.specs.LoneEdits.{typed_in}
use Rattle.wt_typed_blocks.specs.Sent.{StandsAsIs}
use Rattle.wt_typed_blocks.specs.Coming.{white_space, new_paragraph}
use Rattle.wt_text_edit_laws.specs.ProsePages.{Passage, AreProse}
use Rattle.wt_text_edit_laws.specs.ProseTrees.{prose_body}

-- ---- what is done to a page

-- What is sent between the page's paragraphs: white space, or a new paragraph with the first label, and in it this text with the second one.
pub data Addition : Type 0 where
  white : Label → Addition
  paragraph : Label → Label → List ℕ → Addition

-- A passage of the page whose paragraph stays, what is sent for it, and what is sent directly after it; or one whose paragraph goes.
pub data PassageChange : Type 0 where
  stays : Passage → Tree → List Addition → PassageChange
  goes : Passage → PassageChange

-- what is sent before all paragraphs of the page, and what is done to each
pub record ProseChange : Type 0 where
  pub first : List Addition
  pub changes : List PassageChange

abbrev pub passage_of : PassageChange → Passage
passage_of (stays p u xs) = p
passage_of (goes p) = p

abbrev pub passages_before : List PassageChange → List Passage
passages_before cs = map passage_of cs

-- ---- what is sent

abbrev pub sent_before : List Addition → Trees → Trees
sent_before [] us = us
sent_before (white x ∷ xs) us = more (white_space x) (sent_before xs us)
sent_before (paragraph m x text ∷ xs) us = more (new_paragraph m x text) (sent_before xs us)

abbrev pub sent_passages : List PassageChange → Trees
sent_passages [] = none
sent_passages (stays p u xs ∷ cs) = more u (sent_before xs (sent_passages cs))
sent_passages (goes p ∷ cs) = sent_passages cs

-- the edited tree, marked `children`, with this label of its body
abbrev pub changed_prose : Label → ProseChange → Tree
changed_prose b c = tree (record b { kind = kind.Body; id = 0; attrs = []; mark = marks.Children; mw = None }) (sent_before c.first (sent_passages c.changes))

-- ---- the new page

-- a new paragraph, spelled
abbrev pub spelled_new : List ℕ → List ℕ
spelled_new text = typed_in [] text

abbrev pub new_texts : List Addition → List (List ℕ)
new_texts [] = []
new_texts (white x ∷ xs) = new_texts xs
new_texts (paragraph m x text ∷ xs) = text ∷ new_texts xs

abbrev pub any_stays : List PassageChange → Bool
any_stays [] = false
any_stays (stays p u xs ∷ cs) = true
any_stays (goes p ∷ cs) = any_stays cs

-- One line break more comes after what is new, where a paragraph of the page is after it.
abbrev pub one_if : Bool → ℕ
one_if true = 1
one_if false = 0

-- The line breaks after paragraphs that go stay.
abbrev pub breaks_left : List PassageChange → ℕ
breaks_left [] = 0
breaks_left (stays p u xs ∷ cs) = 0
breaks_left (goes p ∷ cs) = p.breaks + breaks_left cs

-- This paragraph, and after it new ones with these texts: two line breaks after each but the last one, and so many after that, or so many
-- where there is no new one.
abbrev pub with_new : List ℕ → List (List ℕ) → ℕ → ℕ → List Passage
with_new q [] alone behind = record { paragraph = q; breaks = alone } ∷ []
with_new q (text ∷ texts) alone behind = record { paragraph = q; breaks = 2 } ∷ with_new (spelled_new text) texts behind behind

abbrev pub passages_after : List PassageChange → List Passage
passages_after [] = []
passages_after (stays p u xs ∷ cs) =
    let left : ℕ = p.breaks + breaks_left cs in
    with_new p.paragraph (new_texts xs) left (one_if (any_stays cs) + left) ++ passages_after cs
passages_after (goes p ∷ cs) = passages_after cs

-- what comes after new paragraphs at the page's start: two line breaks directly before one that stays
abbrev pub breaks_before : List PassageChange → ℕ
breaks_before [] = 0
breaks_before (stays p u xs ∷ cs) = 2
breaks_before (goes p ∷ cs) = one_if (any_stays cs) + breaks_left (goes p ∷ cs)

abbrev pub new_first : List (List ℕ) → List PassageChange → List Passage
new_first [] cs = []
new_first (text ∷ texts) cs = with_new (spelled_new text) texts (breaks_before cs) (breaks_before cs)

abbrev pub passages_changed : ProseChange → List Passage
passages_changed c = new_first (new_texts c.first) c.changes ++ passages_after c.changes

-- ---- which edits these are

-- the children of the page's body after a paragraph with so many line breaks
abbrev pub after_breaks : ℕ → Trees → Trees
after_breaks zero ts = ts
after_breaks (suc n) none = none
after_breaks (suc n) (more t ts) = ts

-- what stays is sent as it is in the page
abbrev pub AreSentAsIs : List PassageChange → Trees → Type 0
AreSentAsIs [] ts = Unit {0}
AreSentAsIs (c ∷ cs) none = Unit {0}
AreSentAsIs (stays p u xs ∷ cs) (more t ts) = StandsAsIs t u × AreSentAsIs cs (after_breaks p.breaks ts)
AreSentAsIs (goes p ∷ cs) (more t ts) = AreSentAsIs cs (after_breaks p.breaks ts)

abbrev pub AreTexts : List Addition → Type 0
AreTexts xs = AllByRecursion IsUtf8 (new_texts xs)

abbrev pub TakeTexts : List PassageChange → Type 0
TakeTexts [] = Unit {0}
TakeTexts (stays p u xs ∷ cs) = AreTexts xs × TakeTexts cs
TakeTexts (goes p ∷ cs) = TakeTexts cs

-- A paragraph is first in the new page: a new one, or the first of the page stays.
abbrev pub BeginsSo : List (List ℕ) → List PassageChange → Type 0
BeginsSo (text ∷ texts) cs = Unit {0}
BeginsSo [] [] = ⊥
BeginsSo [] (stays p u xs ∷ cs) = Unit {0}
BeginsSo [] (goes p ∷ cs) = ⊥

pub record IsProseChange (c : ProseChange) : Type 0 where
  pub are_prose : AreProse (passages_before c.changes)
  pub first_texts : AreTexts c.first
  pub texts : TakeTexts c.changes
  pub as_is : AreSentAsIs c.changes (children (prose_body (passages_before c.changes)))
  pub begins : BeginsSo (new_texts c.first) c.changes
