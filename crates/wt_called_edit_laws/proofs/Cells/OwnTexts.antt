-- The edit that types these texts and sends every other node as it is: it is one of the class, and the texts that it types are these.
use Rattle.std.proofs.Common.{◌≡◌, ◌≢◌, ◌⊎◌, inl, inr, ℕ, zero, suc, Option, Some, None, List, [], ◌∷◌, ◌++◌, map, refl, sym, ap, ap₂, ◌∙◌, subst}
use Rattle.wt_tree.specs.declared.kind.Kind.{Kind}
use Rattle.wt_tree.specs.Tiling.{is_group, ids, ids_of_all}
use Rattle.wt_tree.specs.Tree.{Label, Tree, tree, Trees, none, more}
use Rattle.wt_checks.specs.Kept.{children}
use Rattle.wt_checks.proofs.Lookups.{each_split, AllZero}
use Rattle.wt_typed_blocks.specs.Sent.{kind_of, Sents, old_child, old_children, IsSent, AreSent}
use Rattle.wt_typed_blocks.specs.Typed.{TakesText, TakeTexts}
use Rattle.wt_typed_blocks.proofs.SentGroups.{in_group}
use Rattle.wt_text_edit_laws.specs.BlockSpots.{BlockSpot}
use Rattle.wt_text_edit_laws.specs.OwnNodes.{IsTypedSpot}
use Rattle.wt_text_edit_laws.specs.TextBlocks.{TextBlock, block_of}
use Rattle.wt_called_edit_laws.specs.AnyBlocks.{typed_at, typed_among, typed_by, first_paths, other_paths, EndHere, GoOn, TypesOnly, AllTypeOnly, LeadsTo, LeadsAmong, AllLead}
use Rattle.wt_called_edit_laws.specs.SentAsIs.{HasNumberedGroups, HaveNumberedGroups}
use Rattle.wt_called_edit_laws.specs.OwnTexts.{AreTypings, PathText, path_texts, in_first, in_others, first_texts, other_texts, here_or, text_here, sent_block, sent_node, own_text, own_texts}
use Rattle.wt_called_edit_laws.proofs.Cells.ManyPaths.{past, further, deeper, NoneEmpty}
use Rattle.wt_called_edit_laws.proofs.Cells.SentAsIs.{stands_as_sent}

-- ---- the paths lead to blocks in which the texts may be typed

abbrev paths_in : List PathText → List (List ℕ)
paths_in [] = []
paths_in (y ∷ ys) = y.path ∷ paths_in ys

abbrev texts_in : List PathText → List (Option (List ℕ))
texts_in [] = []
texts_in (y ∷ ys) = y.text ∷ texts_in ys

abbrev IsLed : TextBlock → List ℕ → Trees → Type 0
IsLed k [] ts = Unit {0}
IsLed k (i ∷ is) ts = LeadsAmong k i is ts

abbrev AreLedTo : List PathText → Tree → Type 0
AreLedTo [] t = Unit {0}
AreLedTo (y ∷ ys) t = LeadsTo y.block y.path t × AreLedTo ys t

abbrev AreLedIn : List PathText → Trees → Type 0
AreLedIn [] ts = Unit {0}
AreLedIn (y ∷ ys) ts = IsLed y.block y.path ts × AreLedIn ys ts

abbrev AllFit : List PathText → Type 0
AllFit [] = Unit {0}
AllFit (y ∷ ys) = IsTypedSpot y.block y.text × AllFit ys

first_led : (p : List ℕ) (y : PathText) (ys : List PathText) (t : Tree) (ts : Trees) → IsLed y.block p (more t ts) → AreLedTo ys t → AreLedTo (in_first p y ys) t
first_led [] y ys t ts h g = g
first_led (zero ∷ is) y ys t ts h g = (h, g)
first_led (suc i ∷ is) y ys t ts h g = g

others_led : (p : List ℕ) (y : PathText) (ys : List PathText) (t : Tree) (ts : Trees) → IsLed y.block p (more t ts) → AreLedIn ys ts → AreLedIn (in_others p y ys) ts
others_led [] y ys t ts h g = g
others_led (zero ∷ is) y ys t ts h g = g
others_led (suc i ∷ is) y ys t ts h g = (h, g)

all_first_led : (ys : List PathText) (t : Tree) (ts : Trees) → AreLedIn ys (more t ts) → AreLedTo (first_texts ys) t
all_first_led [] t ts h = tt
all_first_led (y ∷ ys) t ts h = first_led y.path y (first_texts ys) t ts h.0 (all_first_led ys t ts h.1)

all_others_led : (ys : List PathText) (t : Tree) (ts : Trees) → AreLedIn ys (more t ts) → AreLedIn (other_texts ys) ts
all_others_led [] t ts h = tt
all_others_led (y ∷ ys) t ts h = others_led y.path y (other_texts ys) t ts h.0 (all_others_led ys t ts h.1)

led_inside : (k : TextBlock) (p : List ℕ) (l : Label) (ts : Trees) → LeadsTo k p (tree l ts) → IsLed k p ts
led_inside k [] l ts h = tt
led_inside k (i ∷ is) l ts h = h

all_led_inside : (ys : List PathText) (l : Label) (ts : Trees) → AreLedTo ys (tree l ts) → AreLedIn ys ts
all_led_inside [] l ts h = tt
all_led_inside (y ∷ ys) l ts h = (led_inside y.block y.path l ts h.0, all_led_inside ys l ts h.1)

first_fit : (p : List ℕ) (y : PathText) (ys : List PathText) → IsTypedSpot y.block y.text → AllFit ys → AllFit (in_first p y ys)
first_fit [] y ys h g = g
first_fit (zero ∷ is) y ys h g = (h, g)
first_fit (suc i ∷ is) y ys h g = g

others_fit : (p : List ℕ) (y : PathText) (ys : List PathText) → IsTypedSpot y.block y.text → AllFit ys → AllFit (in_others p y ys)
others_fit [] y ys h g = g
others_fit (zero ∷ is) y ys h g = g
others_fit (suc i ∷ is) y ys h g = (h, g)

all_first_fit : (ys : List PathText) → AllFit ys → AllFit (first_texts ys)
all_first_fit [] h = tt
all_first_fit (y ∷ ys) h = first_fit y.path y (first_texts ys) h.0 (all_first_fit ys h.1)

all_others_fit : (ys : List PathText) → AllFit ys → AllFit (other_texts ys)
all_others_fit [] h = tt
all_others_fit (y ∷ ys) h = others_fit y.path y (other_texts ys) h.0 (all_others_fit ys h.1)

-- ---- the one whose path ends here

abbrev HereLeads : Option PathText → Tree → Type 0
HereLeads None t = Unit {0}
HereLeads (Some y) t = LeadsTo y.block [] t

here_led : (p : List ℕ) (y : PathText) (o : Option PathText) (t : Tree) → LeadsTo y.block p t → HereLeads o t → HereLeads (here_or p y o) t
here_led [] y o t h g = h
here_led (i ∷ is) y o t h g = g

here_leads : (ys : List PathText) (t : Tree) → AreLedTo ys t → HereLeads (text_here ys) t
here_leads [] t h = tt
here_leads (y ∷ ys) t h = here_led y.path y (text_here ys) t h.0 (here_leads ys t h.1)

-- which paths there are
abbrev HereIs : Option PathText → List (List ℕ) → Type 0
HereIs (Some y) ps = EndHere ps × IsTypedSpot y.block y.text
HereIs None [] = Unit {0}
HereIs None (p ∷ ps) = GoOn (p ∷ ps)

here_further : (i : ℕ) (is : List ℕ) (o : Option PathText) (ps : List (List ℕ)) → HereIs o ps → HereIs o ((i ∷ is) ∷ ps)
here_further i is None ps h = tt
here_further i is (Some y) ps h = h

here_by : (p : List ℕ) (y : PathText) (o : Option PathText) (ps : List (List ℕ)) → IsTypedSpot y.block y.text → HereIs o ps → HereIs (here_or p y o) (p ∷ ps)
here_by [] y o ps h g = (tt, h)
here_by (i ∷ is) y o ps h g = here_further i is o ps g

here_is : (ys : List PathText) → AllFit ys → HereIs (text_here ys) (paths_in ys)
here_is [] h = tt
here_is (y ∷ ys) h = here_by y.path y (text_here ys) (paths_in ys) h.0 (here_is ys h.1)

-- ---- it is the page, and is sent

old_block : (o : Option (List ℕ)) (k : TextBlock) (m l : Label) (ts : Trees) → l.kind ≡ kind_of (block_of k) → old_child (sent_block o k m l ts) ≡ tree l ts
old_block None k m l ts e = refl
old_block (Some text) k m l ts e = ap (λ (j : Kind). tree (record l { kind = j }) ts) (sym e)

old_node : (o : Option PathText) (ys : List PathText) (m l : Label) (ts : Trees) (ss : Sents) → HereLeads o (tree l ts) → old_children ss ≡ ts
    → old_child (sent_node o ys m l ts ss) ≡ tree l ts
old_node (Some y) ys m l ts ss h e = old_block y.text y.block m l ts h.0
old_node None [] m l ts ss h e = refl
old_node None (y ∷ ys) m l ts ss h e = ap (tree l) e

mutual
  old_text : (m : Label) (ys : List PathText) (t : Tree) → AreLedTo ys t → old_child (own_text m ys t) ≡ t
  old_text m ys (tree l ts) h =
      old_node (text_here ys) ys m l ts (own_texts m ys ts) (here_leads ys (tree l ts) h) (old_texts m ys ts (all_led_inside ys l ts h))

  old_texts : (m : Label) (ys : List PathText) (ts : Trees) → AreLedIn ys ts → old_children (own_texts m ys ts) ≡ ts
  old_texts m ys none h = refl
  old_texts m ys (more t ts) h =
      ap₂ more (old_text m (first_texts ys) t (all_first_led ys t ts h)) (old_texts m (other_texts ys) ts (all_others_led ys t ts h))

-- no path leads into a group, since no node has a number there
mutual
  not_led_to : (k : TextBlock) (p : List ℕ) (t : Tree) → AllZero (ids t) → LeadsTo k p t → ⊥
  not_led_to k [] (tree l ts) z h = h.1 z.0
  not_led_to k (i ∷ is) (tree l ts) z h = not_led_among k i is ts z.1 h

  not_led_among : (k : TextBlock) (i : ℕ) (is : List ℕ) (ts : Trees) → AllZero (ids_of_all ts) → LeadsAmong k i is ts → ⊥
  not_led_among k i is none z h = h
  not_led_among k zero is (more t ts) z h = not_led_to k is t (each_split (λ n. n ≡ 0) (ids t) (ids_of_all ts) z).0 h
  not_led_among k (suc i) is (more t ts) z h = not_led_among k i is ts (each_split (λ n. n ≡ 0) (ids t) (ids_of_all ts) z).1 h

not_led_inside : (p : List ℕ) (y : PathText) (o : Option PathText) (ts : Trees) → here_or p y o ≡ None → IsLed y.block p ts → AllZero (ids_of_all ts) → ⊥
not_led_inside [] y o ts e h z = absurd (cc)
not_led_inside (i ∷ is) y o ts e h z = not_led_among y.block i is ts z h

block_is_sent : (o : Option (List ℕ)) (k : TextBlock) (m l : Label) (ts : Trees) → HasNumberedGroups (tree l ts) → l.id ≢ 0 → IsSent (sent_block o k m l ts)
block_is_sent None k m l ts g e = stands_as_sent (tree l ts) g
block_is_sent (Some text) k m l ts g e = e

node_is_sent : (o : Option PathText) (ys : List PathText) (m l : Label) (ts : Trees) (ss : Sents) → text_here ys ≡ o → HasNumberedGroups (tree l ts)
    → HereLeads o (tree l ts) → AreLedIn ys ts → (HaveNumberedGroups ts → AreSent ss) → IsSent (sent_node o ys m l ts ss)
node_is_sent (Some y) ys m l ts ss e g h led s = block_is_sent y.text y.block m l ts g h.1
node_is_sent None [] m l ts ss e g h led s = stands_as_sent (tree l ts) g
node_is_sent None (y ∷ ys) m l ts ss e g h led s = (
  record { kind = refl; id = refl; attrs = refl; mw = refl; shown = λ e. refl; unmarked = refl },
  s (in_group (is_group l.kind) g (λ v k. absurd (not_led_inside y.path y (text_here ys) ts e led.0 k.unnumbered)) (λ v k. k)),
)

mutual
  text_is_sent : (m : Label) (ys : List PathText) (t : Tree) → HasNumberedGroups t → AreLedTo ys t → IsSent (own_text m ys t)
  text_is_sent m ys (tree l ts) g h =
      let led : AreLedIn ys ts = all_led_inside ys l ts h in
      node_is_sent (text_here ys) ys m l ts (own_texts m ys ts) refl g (here_leads ys (tree l ts) h) led (λ k. texts_are_sent m ys ts k led)

  texts_are_sent : (m : Label) (ys : List PathText) (ts : Trees) → HaveNumberedGroups ts → AreLedIn ys ts → AreSent (own_texts m ys ts)
  texts_are_sent m ys none g h = tt
  texts_are_sent m ys (more t ts) g h =
      (text_is_sent m (first_texts ys) t g.0 (all_first_led ys t ts h), texts_are_sent m (other_texts ys) ts g.1 (all_others_led ys t ts h))

-- ---- texts are typed there alone

first_is : (p : List ℕ) (y : PathText) (ps : List (List ℕ)) (ys : List PathText) → first_paths ps ≡ paths_in ys → first_paths (p ∷ ps) ≡ paths_in (in_first p y ys)
first_is [] y ps ys e = e
first_is (zero ∷ is) y ps ys e = ap (λ (qs : List (List ℕ)). is ∷ qs) e
first_is (suc i ∷ is) y ps ys e = e

all_first : (ys : List PathText) → first_paths (paths_in ys) ≡ paths_in (first_texts ys)
all_first [] = refl
all_first (y ∷ ys) = first_is y.path y (paths_in ys) (first_texts ys) (all_first ys)

others_are : (p : List ℕ) (y : PathText) (ps : List (List ℕ)) (ys : List PathText) → other_paths ps ≡ paths_in ys → other_paths (p ∷ ps) ≡ paths_in (in_others p y ys)
others_are [] y ps ys e = e
others_are (zero ∷ is) y ps ys e = e
others_are (suc i ∷ is) y ps ys e = ap (λ (qs : List (List ℕ)). (i ∷ is) ∷ qs) e

all_others : (ys : List PathText) → other_paths (paths_in ys) ≡ paths_in (other_texts ys)
all_others [] = refl
all_others (y ∷ ys) = others_are y.path y (paths_in ys) (other_texts ys) (all_others ys)

block_types : (o : Option (List ℕ)) (k : TextBlock) (m l : Label) (ts : Trees) (ps : List (List ℕ)) → EndHere ps → IsTypedSpot k o → TypesOnly ps (sent_block o k m l ts)
block_types None k m l ts ps e f = tt
block_types (Some text) k m l ts ps e f = (e, f.0)

node_types : (o : Option PathText) (ys : List PathText) (m l : Label) (ts : Trees) (ss : Sents) → HereIs o (paths_in ys) → AllTypeOnly (paths_in ys) ss
    → TypesOnly (paths_in ys) (sent_node o ys m l ts ss)
node_types (Some y) ys m l ts ss h s = block_types y.text y.block m l ts (paths_in ys) h.0 h.1
node_types None [] m l ts ss h s = tt
node_types None (y ∷ ys) m l ts ss h s = (h, s)

mutual
  text_types : (m : Label) (ys : List PathText) (t : Tree) → AllFit ys → TypesOnly (paths_in ys) (own_text m ys t)
  text_types m ys (tree l ts) f = node_types (text_here ys) ys m l ts (own_texts m ys ts) (here_is ys f) (texts_type m ys ts f)

  texts_type : (m : Label) (ys : List PathText) (ts : Trees) → AllFit ys → AllTypeOnly (paths_in ys) (own_texts m ys ts)
  texts_type m ys none f = tt
  texts_type m ys (more t ts) f = (
    subst (λ ps. TypesOnly ps (own_text m (first_texts ys) t)) (sym (all_first ys)) (text_types m (first_texts ys) t (all_first_fit ys f)),
    subst (λ ps. AllTypeOnly ps (own_texts m (other_texts ys) ts)) (sym (all_others ys)) (texts_type m (other_texts ys) ts (all_others_fit ys f)),
  )

block_takes : (o : Option (List ℕ)) (k : TextBlock) (m l : Label) (ts : Trees) → IsTypedSpot k o → TakesText (sent_block o k m l ts)
block_takes None k m l ts f = tt
block_takes (Some text) k m l ts f = f.1

node_takes : (o : Option PathText) (ys : List PathText) (m l : Label) (ts : Trees) (ss : Sents) → HereIs o (paths_in ys) → TakeTexts ss → TakesText (sent_node o ys m l ts ss)
node_takes (Some y) ys m l ts ss h s = block_takes y.text y.block m l ts h.1
node_takes None [] m l ts ss h s = tt
node_takes None (y ∷ ys) m l ts ss h s = s

mutual
  text_takes : (m : Label) (ys : List PathText) (t : Tree) → AllFit ys → TakesText (own_text m ys t)
  text_takes m ys (tree l ts) f = node_takes (text_here ys) ys m l ts (own_texts m ys ts) (here_is ys f) (texts_take m ys ts f)

  texts_take : (m : Label) (ys : List PathText) (ts : Trees) → AllFit ys → TakeTexts (own_texts m ys ts)
  texts_take m ys none f = tt
  texts_take m ys (more t ts) f = (text_takes m (first_texts ys) t (all_first_fit ys f), texts_take m (other_texts ys) ts (all_others_fit ys f))

-- ---- no path begins another one

abbrev pub ApartAt : ℕ → ℕ → Type 0 → Type 0
ApartAt zero zero P = P
ApartAt zero (suc j) P = Unit {0}
ApartAt (suc i) zero P = Unit {0}
ApartAt (suc i) (suc j) P = ApartAt i j P

abbrev pub IsApart : List ℕ → List ℕ → Type 0
IsApart [] q = ⊥
IsApart (i ∷ is) [] = ⊥
IsApart (i ∷ is) (j ∷ js) = ApartAt i j (IsApart is js)

abbrev pub IsApartFrom : List ℕ → List (List ℕ) → Type 0
IsApartFrom p [] = Unit {0}
IsApartFrom p (q ∷ qs) = IsApart p q × IsApartFrom p qs

abbrev pub AreApart : List (List ℕ) → Type 0
AreApart [] = Unit {0}
AreApart (p ∷ ps) = IsApartFrom p ps × AreApart ps

past_apart : (p q : List ℕ) → IsApart p q → IsApart (past p) (past q)
past_apart [] q h = absurd h
past_apart (i ∷ is) [] h = absurd h
past_apart (i ∷ is) (j ∷ js) h = h

past_from : (p : List ℕ) (qs : List (List ℕ)) → IsApartFrom p qs → IsApartFrom (past p) (further qs)
past_from p [] h = tt
past_from p (q ∷ qs) h = (past_apart p q h.0, past_from p qs h.1)

pub further_apart : (ps : List (List ℕ)) → AreApart ps → AreApart (further ps)
further_apart [] h = tt
further_apart (p ∷ ps) h = (past_from p ps h.0, further_apart ps h.1)

-- those in the first node, and those behind it
pub first_apart : (p : List ℕ) (qs : List (List ℕ)) → NoneEmpty qs → IsApartFrom (zero ∷ p) (further qs)
first_apart p [] h = tt
first_apart p ([] ∷ qs) h = absurd h
first_apart p ((j ∷ js) ∷ qs) h = (tt, first_apart p qs h)

inside_from : (p : List ℕ) (ps qs : List (List ℕ)) → NoneEmpty qs → IsApartFrom p ps → IsApartFrom (zero ∷ p) (deeper ps ++ further qs)
inside_from p [] qs f h = first_apart p qs f
inside_from p (q ∷ ps) qs f h = (h.0, inside_from p ps qs f h.1)

pub inside_apart : (ps qs : List (List ℕ)) → NoneEmpty qs → AreApart ps → AreApart qs → AreApart (deeper ps ++ further qs)
inside_apart [] qs f h g = further_apart qs g
inside_apart (p ∷ ps) qs f h g = (inside_from p ps qs f h.0, inside_apart ps qs f h.1 g)

-- ---- so each text is found at its path

-- this text is the one at this path
abbrev HasOnly : List PathText → List ℕ → Option (List ℕ) → Type 0
HasOnly [] p o = ⊥
HasOnly (y ∷ ys) p o = ((y.path ≡ p) × (y.text ≡ o) × IsApartFrom p (paths_in ys)) ⊎ (IsApart y.path p × HasOnly ys p o)

from_first : (is : List ℕ) (qs : List (List ℕ)) → IsApartFrom (zero ∷ is) qs → IsApartFrom is (first_paths qs)
from_first is [] h = tt
from_first is ([] ∷ qs) h = absurd h.0
from_first is ((zero ∷ js) ∷ qs) h = (h.0, from_first is qs h.1)
from_first is ((suc j ∷ js) ∷ qs) h = from_first is qs h.1

from_others : (i : ℕ) (is : List ℕ) (qs : List (List ℕ)) → IsApartFrom (suc i ∷ is) qs → IsApartFrom (i ∷ is) (other_paths qs)
from_others i is [] h = tt
from_others i is ([] ∷ qs) h = absurd h.0
from_others i is ((zero ∷ js) ∷ qs) h = from_others i is qs h.1
from_others i is ((suc j ∷ js) ∷ qs) h = (h.0, from_others i is qs h.1)

first_only : (p : List ℕ) (y : PathText) (ys : List PathText) (is : List ℕ) (o : Option (List ℕ)) → IsApart p (zero ∷ is) → HasOnly ys is o → HasOnly (in_first p y ys) is o
first_only [] y ys is o a h = absurd a
first_only (zero ∷ js) y ys is o a h = inr (a, h)
first_only (suc j ∷ js) y ys is o a h = h

others_only : (p : List ℕ) (y : PathText) (ys : List PathText) (i : ℕ) (is : List ℕ) (o : Option (List ℕ)) → IsApart p (suc i ∷ is) → HasOnly ys (i ∷ is) o
    → HasOnly (in_others p y ys) (i ∷ is) o
others_only [] y ys i is o a h = absurd a
others_only (zero ∷ js) y ys i is o a h = h
others_only (suc j ∷ js) y ys i is o a h = inr (a, h)

has_first : (ys : List PathText) (is : List ℕ) (o : Option (List ℕ)) → HasOnly ys (zero ∷ is) o → HasOnly (first_texts ys) is o
has_first [] is o h = absurd h
has_first (y ∷ ys) is o (inl h) =
    subst (λ p. HasOnly (in_first p y (first_texts ys)) is o) (sym h.0)
    (inl (refl, h.1, subst (IsApartFrom is) (all_first ys) (from_first is (paths_in ys) h.2)))
has_first (y ∷ ys) is o (inr h) = first_only y.path y (first_texts ys) is o h.0 (has_first ys is o h.1)

has_others : (ys : List PathText) (i : ℕ) (is : List ℕ) (o : Option (List ℕ)) → HasOnly ys (suc i ∷ is) o → HasOnly (other_texts ys) (i ∷ is) o
has_others [] i is o h = absurd h
has_others (y ∷ ys) i is o (inl h) =
    subst (λ p. HasOnly (in_others p y (other_texts ys)) (i ∷ is) o) (sym h.0)
    (inl (refl, h.1, subst (IsApartFrom (i ∷ is)) (all_others ys) (from_others i is (paths_in ys) h.2)))
has_others (y ∷ ys) i is o (inr h) = others_only y.path y (other_texts ys) i is o h.0 (has_others ys i is o h.1)

not_here : (p : List ℕ) (y : PathText) (o : Option PathText) (q : List ℕ) → IsApart p q → o ≡ None → here_or p y o ≡ None
not_here [] y o q a e = absurd a
not_here (i ∷ is) y o q a e = e

none_by : (p : List ℕ) (y : PathText) (o : Option PathText) (i : ℕ) (is : List ℕ) → IsApart (i ∷ is) p → o ≡ None → here_or p y o ≡ None
none_by [] y o i is a e = absurd a
none_by (j ∷ js) y o i is a e = e

none_from : (i : ℕ) (is : List ℕ) (ys : List PathText) → IsApartFrom (i ∷ is) (paths_in ys) → text_here ys ≡ None
none_from i is [] h = refl
none_from i is (y ∷ ys) h = none_by y.path y (text_here ys) i is h.0 (none_from i is ys h.1)

none_here : (ys : List PathText) (i : ℕ) (is : List ℕ) (o : Option (List ℕ)) → HasOnly ys (i ∷ is) o → text_here ys ≡ None
none_here [] i is o h = absurd h
none_here (y ∷ ys) i is o (inl h) = subst (λ p. here_or p y (text_here ys) ≡ None) (sym h.0) (none_from i is ys h.2)
none_here (y ∷ ys) i is o (inr h) = not_here y.path y (text_here ys) (i ∷ is) h.0 (none_here ys i is o h.1)

block_typed : (o : Option (List ℕ)) (k : TextBlock) (m l : Label) (ts : Trees) → typed_at [] (sent_block o k m l ts) ≡ o
block_typed None k m l ts = refl
block_typed (Some text) k m l ts = refl

no_end : (p : List ℕ) → IsApart p [] → ⊥
no_end [] h = h
no_end (i ∷ is) h = h

ends_with : (m l : Label) (ts : Trees) (ss : Sents) (ys : List PathText) (o : Option (List ℕ)) → HasOnly ys [] o → typed_at [] (sent_node (text_here ys) ys m l ts ss) ≡ o
ends_with m l ts ss [] o h = absurd h
ends_with m l ts ss (y ∷ ys) o (inl h) =
    subst (λ p. typed_at [] (sent_node (here_or p y (text_here ys)) (y ∷ ys) m l ts ss) ≡ o) (sym h.0) (block_typed y.text y.block m l ts ∙ h.1)
ends_with m l ts ss (y ∷ ys) o (inr h) = absurd (no_end y.path h.0)

goes_on : (m l : Label) (ts : Trees) (ss : Sents) (ys : List PathText) (i : ℕ) (is : List ℕ) (o : Option (List ℕ)) → HasOnly ys (i ∷ is) o
    → typed_among i is ss ≡ o → typed_at (i ∷ is) (sent_node (text_here ys) ys m l ts ss) ≡ o
goes_on m l ts ss [] i is o h e = absurd h
goes_on m l ts ss (y ∷ ys) i is o h e =
    subst (λ v. typed_at (i ∷ is) (sent_node v (y ∷ ys) m l ts ss) ≡ o) (sym (none_here (y ∷ ys) i is o h)) e

mutual
  found_at : (m : Label) (ys : List PathText) (p : List ℕ) (o : Option (List ℕ)) (k : TextBlock) (t : Tree) → HasOnly ys p o → LeadsTo k p t
      → typed_at p (own_text m ys t) ≡ o
  found_at m ys [] o k (tree l ts) h g = ends_with m l ts (own_texts m ys ts) ys o h
  found_at m ys (i ∷ is) o k (tree l ts) h g = goes_on m l ts (own_texts m ys ts) ys i is o h (found_among m ys i is o k ts h g)

  found_among : (m : Label) (ys : List PathText) (i : ℕ) (is : List ℕ) (o : Option (List ℕ)) (k : TextBlock) (ts : Trees) → HasOnly ys (i ∷ is) o
      → LeadsAmong k i is ts → typed_among i is (own_texts m ys ts) ≡ o
  found_among m ys i is o k none h g = absurd g
  found_among m ys zero is o k (more t ts) h g = found_at m (first_texts ys) is o k t (has_first ys is o h) g
  found_among m ys (suc i) is o k (more t ts) h g = found_among m (other_texts ys) i is o k ts (has_others ys i is o h) g

-- ---- of all

abbrev AllHave : List PathText → List PathText → Type 0
AllHave ys [] = Unit {0}
AllHave ys (z ∷ zs) = HasOnly ys z.path z.text × AllHave ys zs

wider : (y : PathText) (ys zs : List PathText) → IsApartFrom y.path (paths_in zs) → AllHave ys zs → AllHave (y ∷ ys) zs
wider y ys [] a h = tt
wider y ys (z ∷ zs) a h = (inr (a.0, h.0), wider y ys zs a.1 h.1)

all_have : (ys : List PathText) → AreApart (paths_in ys) → AllHave ys ys
all_have [] a = tt
all_have (y ∷ ys) a = (inl (refl, refl, a.0), wider y ys ys a.0 (all_have ys a.1))

abbrev IsSome : List ℕ → Type 0
IsSome [] = ⊥
IsSome (i ∷ is) = Unit {0}

full_split : (p : List ℕ) (ps : List (List ℕ)) → NoneEmpty (p ∷ ps) → IsSome p × NoneEmpty ps
full_split [] ps h = absurd h
full_split (i ∷ is) ps h = (tt, h)

found_by : (m : Label) (ys : List PathText) (p : List ℕ) (o : Option (List ℕ)) (k : TextBlock) (ts : Trees) → IsSome p → HasOnly ys p o → IsLed k p ts
    → typed_by (own_texts m ys ts) p ≡ o
found_by m ys [] o k ts s h g = absurd s
found_by m ys (i ∷ is) o k ts s h g = found_among m ys i is o k ts h g

all_found : (m : Label) (ys zs : List PathText) (ts : Trees) → NoneEmpty (paths_in zs) → AllHave ys zs → AreLedIn zs ts
    → map (typed_by (own_texts m ys ts)) (paths_in zs) ≡ texts_in zs
all_found m ys [] ts f h g = refl
all_found m ys (z ∷ zs) ts f h g =
    let s = full_split z.path (paths_in zs) f in
    ap₂ (λ (o : Option (List ℕ)) (os : List (Option (List ℕ))). o ∷ os) (found_by m ys z.path z.text z.block ts s.0 h.0 g.0) (all_found m ys zs ts s.1 h.1 g.1)

-- ---- of the blocks of a page

paths_so : (ss : List BlockSpot) (ps : List (List ℕ)) (os : List (Option (List ℕ))) (t : Tree) → AllLead ss ps t → AreTypings ss os → paths_in (path_texts ss ps os) ≡ ps
paths_so [] [] os t h u = refl
paths_so [] (p ∷ ps) os t h u = absurd h
paths_so (s ∷ ss) [] os t h u = refl
paths_so (s ∷ ss) (p ∷ ps) [] t h u = absurd u
paths_so (s ∷ ss) (p ∷ ps) (o ∷ os) t h u = ap (λ (qs : List (List ℕ)). p ∷ qs) (paths_so ss ps os t h.1 u.1)

texts_so : (ss : List BlockSpot) (ps : List (List ℕ)) (os : List (Option (List ℕ))) (t : Tree) → AllLead ss ps t → AreTypings ss os → texts_in (path_texts ss ps os) ≡ os
texts_so [] ps [] t h u = refl
texts_so [] ps (o ∷ os) t h u = absurd u
texts_so (s ∷ ss) [] os t h u = absurd h
texts_so (s ∷ ss) (p ∷ ps) [] t h u = absurd u
texts_so (s ∷ ss) (p ∷ ps) (o ∷ os) t h u = ap (λ (qs : List (Option (List ℕ))). o ∷ qs) (texts_so ss ps os t h.1 u.1)

led_so : (ss : List BlockSpot) (ps : List (List ℕ)) (os : List (Option (List ℕ))) (t : Tree) → AllLead ss ps t → AreLedTo (path_texts ss ps os) t
led_so [] ps os t h = tt
led_so (s ∷ ss) [] os t h = tt
led_so (s ∷ ss) (p ∷ ps) [] t h = tt
led_so (s ∷ ss) (p ∷ ps) (o ∷ os) t h = (h.0, led_so ss ps os t h.1)

fit_so : (ss : List BlockSpot) (ps : List (List ℕ)) (os : List (Option (List ℕ))) → AreTypings ss os → AllFit (path_texts ss ps os)
fit_so [] ps os u = tt
fit_so (s ∷ ss) [] os u = tt
fit_so (s ∷ ss) (p ∷ ps) [] u = tt
fit_so (s ∷ ss) (p ∷ ps) (o ∷ os) u = (u.0, fit_so ss ps os u.1)

led_children : (ys : List PathText) (t : Tree) → AreLedTo ys t → AreLedIn ys (children t)
led_children ys (tree l ts) h = all_led_inside ys l ts h

-- of any tree whose groups have numbers
pub record IsOwnEdit (t : Tree) (paths : List (List ℕ)) (os : List (Option (List ℕ))) (es : Sents) : Type 0 where
  pub old : old_children es ≡ children t
  pub sent : AreSent es
  pub types : AllTypeOnly paths es
  pub take : TakeTexts es
  pub texts : map (typed_by es) paths ≡ os

pub tree_edit : (t : Tree) (ss : List BlockSpot) (paths : List (List ℕ)) (m : Label) (os : List (Option (List ℕ))) → NoneEmpty paths → AreApart paths
    → HaveNumberedGroups (children t) → AllLead ss paths t → AreTypings ss os → IsOwnEdit t paths os (own_texts m (path_texts ss paths os) (children t))
tree_edit t ss paths m os full apart g lead u =
    let ts : Trees = children t in
    let ys : List PathText = path_texts ss paths os in
    let led : AreLedIn ys ts = led_children ys t (led_so ss paths os t lead) in
    let fit : AllFit ys = fit_so ss paths os u in
    let are : paths_in ys ≡ paths = paths_so ss paths os t lead u in
    record {
      old = old_texts m ys ts led;
      sent = texts_are_sent m ys ts g led;
      types = subst (λ ps. AllTypeOnly ps (own_texts m ys ts)) are (texts_type m ys ts fit);
      take = texts_take m ys ts fit;
      texts = ap (map (typed_by (own_texts m ys ts))) (sym are)
          ∙ all_found m ys ys ts (subst NoneEmpty (sym are) full) (all_have ys (subst AreApart (sym are) apart)) led
          ∙ texts_so ss paths os t lead u;
    }
