-- Texts typed in paragraphs of prose: what an editor sends, and the new page.
use Rattle.std.specs.Prelude.{ℕ, zero, suc, List, [], ◌∷◌, map}
use Rattle.std.specs.List.{flat_map}
use Rattle.std.specs.Str.{IsUtf8}
use Rattle.wt_tree.specs.Tree.{Label, Tree, tree, Trees, none, more, label}
use Rattle.wt_checks.specs.Kept.{children}
use Rattle.wt_text_edit_laws.specs.LoneEdits.{typed_in}
use Rattle.wt_typed_blocks.specs.Sent.{paragraph, Sent, stands, typed, Sents, none_sent, more_sent, StandsAsIs, new_body}
use Rattle.wt_text_edit_laws.specs.ProsePages.{Passage, AreProse}
use Rattle.wt_text_edit_laws.specs.ProseTrees.{prose_body}

-- ---- what is done to a page

-- A paragraph in which this text was typed: it is sent with the first label, and the text in it with the second one. Or a node that is sent
-- as this one.
pub data Sending : Type 0 where
  retyped : Label → Label → List ℕ → Sending
  kept : Tree → Sending

-- A passage of the page, what is sent for its paragraph, and the node that is sent for the line breaks after it, where there are any.
pub record PassageEdit : Type 0 where
  pub passage : Passage
  pub sending : Sending
  pub breaks : Tree

abbrev pub old_passages : List PassageEdit → List Passage
old_passages es = map (λ e. e.passage) es

-- ---- the new page

abbrev pub new_paragraph : Sending → List ℕ → List ℕ
new_paragraph (retyped p t text) source = typed_in source text
new_paragraph (kept u) source = source

abbrev pub new_passage : PassageEdit → Passage
new_passage e = record { paragraph = new_paragraph e.sending e.passage.paragraph; breaks = e.passage.breaks }

abbrev pub new_passages : List PassageEdit → List Passage
new_passages es = map new_passage es

-- ---- what is sent

abbrev pub for_breaks : ℕ → Tree → List Sending
for_breaks zero u = []
for_breaks (suc n) u = kept u ∷ []

abbrev pub sendings : PassageEdit → List Sending
sendings e = e.sending ∷ for_breaks e.passage.breaks e.breaks

-- for a child of the page's body, and for its children one after the other
abbrev pub sent_child : Sending → Tree → Sent
sent_child (retyped p t text) (tree l ts) = typed paragraph l ts p t text
sent_child (kept u) t = stands t u

abbrev pub sent_children : List Sending → Trees → Sents
sent_children [] ts = none_sent
sent_children (s ∷ ss) none = none_sent
sent_children (s ∷ ss) (more t ts) = more_sent (sent_child s t) (sent_children ss ts)

abbrev pub all_sendings : List PassageEdit → List Sending
all_sendings es = flat_map sendings es

-- the edited tree, with this label of its body
abbrev pub sent_prose : Label → List PassageEdit → Tree
sent_prose b es = let body = prose_body (old_passages es) in new_body (label body) b (sent_children (all_sendings es) (children body))

-- ---- which edits these are

-- each node that is kept is sent as it is in the page
abbrev pub AreKept : List Sending → Trees → Type 0
AreKept [] ts = Unit {0}
AreKept (s ∷ ss) none = Unit {0}
AreKept (retyped p t text ∷ ss) (more u us) = AreKept ss us
AreKept (kept v ∷ ss) (more u us) = StandsAsIs u v × AreKept ss us

abbrev pub IsText : Sending → Type 0
IsText (retyped p t text) = IsUtf8 text
IsText (kept u) = Unit {0}

-- any texts at all
abbrev pub AreTyped : List PassageEdit → Type 0
AreTyped [] = Unit {0}
AreTyped (e ∷ es) = IsText e.sending × AreTyped es

pub record IsProseEdit (es : List PassageEdit) : Type 0 where
  pub are_prose : AreProse (old_passages es)
  pub are_texts : AreTyped es
  pub are_kept : AreKept (all_sendings es) (children (prose_body (old_passages es)))
