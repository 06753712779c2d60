-- What is written round new paragraphs of prose, and where paragraphs go.
use Rattle.std.proofs.Common.{arith, ◌≡◌, ℕ, zero, suc, ◌≤◌, Bool, true, false, List, [], ◌∷◌, refl, ap, ◌∙◌, append-nil}
use Rattle.std.specs.Prelude.{◌||◌, if◌then◌else◌, replicate}
use Rattle.std.specs.Str.{chars}
use Rattle.wt_span.specs.Characters as byte
use Rattle.wt_tree.specs.declared.kind.Mark.{Mark}
use Rattle.wt_tree.specs.declared.edit_shape.Place.TheVariants as place
use Rattle.wt_tree.specs.Source.{flat}
use Rattle.wt_tree.specs.Tree.{Label, Tree, tree}
use Rattle.wt_span.specs.Items.{Item}
use Rattle.wt_guards.specs.Content.{letters}
use Rattle.wt_guards.specs.Guards.{spelled}
use Rattle.wt_original.specs.Kept.{kept_with}
use Rattle.wt_checks.specs.Marks.{is_children}
use Rattle.wt_checks.specs.Places.{Page}
use Rattle.wt_content.specs.Content.{has_break}
use Rattle.wt_link_spelling.specs.Spelling.{block_spelling}
use Rattle.wt_slices.specs.declared.body.Front.{Front}
use Rattle.wt_slices.specs.BodySlices.{is_parted, begins_new, holds_kept, said_or, true_if, false_unless, blank_first, leaves_break, leaves_blank, past_node, tail_before, tail_at_end, tail, list_at, child_slices}
use Rattle.wt_slices.specs.Changes.{insides}
use Rattle.wt_slices.specs.Steps.{Step}
use Rattle.wt_typed_blocks.specs.Sent.{StandsAsIs}
use Rattle.wt_typed_blocks.specs.Coming.{Coming, new_paragraph, steps_of}
use Rattle.wt_typed_blocks.proofs.EditedSlices.{Same, no_insides}
use Rattle.wt_typed_blocks.proofs.SentGroups.{no_mark}
use Rattle.wt_text_edit_laws.specs.ProsePages.{Passage, AreProse}
use Rattle.wt_text_edit_laws.specs.ProseChanges.{Addition, white, paragraph, PassageChange, stays, goes, passages_before, spelled_new, new_texts, any_stays, one_if}
use Rattle.wt_text_edit_laws.proofs.Prose.BlockFacts.{sep_source}
use Rattle.wt_text_edit_laws.proofs.Prose.ChangesListed.{passage_node, breaks_node, number_past, items_past, number_after, items_after, with_breaks, with_added, coming_of}

-- ---- line breaks

pub or_true : (b : Bool) → (b || true) ≡ true
or_true true = refl
or_true false = refl

pub broken : (k : ℕ) (before : List Item) → has_break (flat (breaks_node (suc k) before)) ≡ true
broken k before = ap has_break (sep_source (suc k))

-- After a paragraph of prose line breaks come, or nothing.
abbrev pub Apart : ℕ → List PassageChange → Type 0
Apart k [] = Unit {0}
Apart zero (c ∷ cs) = ⊥
Apart (suc k) (c ∷ cs) = Unit {0}

by_two : (k : ℕ) (c : PassageChange) (cs : List PassageChange) → 2 ≤ k → Apart k (c ∷ cs)
by_two zero c cs le = absurd (omega (arith, le))
by_two (suc k) c cs le = tt

pub apart_of : (p : Passage) (cs : List PassageChange) → AreProse (p ∷ passages_before cs) → Apart p.breaks cs
apart_of p [] h = tt
apart_of p (c ∷ cs) h = by_two p.breaks c cs h.1

-- ---- the steps after a paragraph

abbrev pub steps_after : ℕ → ℕ → List Item → List PassageChange → List Step
steps_after k m after cs = steps_of (with_breaks k after (coming_of (number_after k m after) (items_after k after) cs))

pub parted : (k m : ℕ) (after : List Item) (cs : List PassageChange) → Apart k cs → is_parted (steps_after k m after cs) ≡ true
parted zero m after [] h = refl
parted zero m after (c ∷ cs) h = absurd h
parted (suc k) m after cs h =
    let others : Bool = is_parted (steps_of (coming_of (number_after (suc k) m after) (items_after (suc k) after) cs)) in
    ap (λ (b : Bool). others || b) (broken k after) ∙ or_true others

opens : (k m : ℕ) (after : List Item) (cs : List PassageChange) → Apart k cs → begins_new (steps_after k m after cs) ≡ false
opens zero m after [] h = refl
opens zero m after (c ∷ cs) h = absurd h
opens (suc k) m after cs h = refl

after_holds : (k m : ℕ) (after : List Item) (cs : List PassageChange)
    → ((n : ℕ) (before : List Item) → holds_kept (steps_of (coming_of n before cs)) ≡ any_stays cs) → holds_kept (steps_after k m after cs) ≡ any_stays cs
after_holds zero m after cs g = g m after
after_holds (suc k) m after cs g = g (number_after (suc k) m after) (items_after (suc k) after)

coming_holds : (cs : List PassageChange) (n : ℕ) (before : List Item) → holds_kept (steps_of (coming_of n before cs)) ≡ any_stays cs
coming_holds [] n before = refl
coming_holds (stays p u xs ∷ cs) n before = refl
coming_holds (goes p ∷ cs) n before = after_holds p.breaks (number_past n before p) (items_past before p) cs (coming_holds cs)

holds : (k m : ℕ) (after : List Item) (cs : List PassageChange) → holds_kept (steps_after k m after cs) ≡ any_stays cs
holds k m after cs = after_holds k m after cs (coming_holds cs)

leaves : (k m : ℕ) (after : List Item) (cs : List PassageChange) → Apart k cs → any_stays cs ≡ true → leaves_break (steps_after k m after cs) ≡ true
leaves zero m after [] h e = absurd (cc)
leaves zero m after (c ∷ cs) h e = absurd h
leaves (suc k) m after cs h e =
    ap (λ (b : Bool). said_or (true_if b) (leaves_break (steps_of (coming_of (number_after (suc k) m after) (items_after (suc k) after) cs)))) (broken k after)

blanks : (k m : ℕ) (after : List Item) (cs : List PassageChange) (f : Front) → Apart k cs → leaves_blank f (steps_after k m after cs) ≡ false
blanks zero m after [] f h = refl
blanks zero m after (c ∷ cs) f h = absurd h
blanks (suc k) m after cs f h =
    let rest : Bool = leaves_blank (past_node f (breaks_node (suc k) after)) (steps_of (coming_of (number_after (suc k) m after) (items_after (suc k) after) cs)) in
    ap (λ (bs : List ℕ). said_or (blank_first bs) rest) (sep_source (suc k))

tail_by : (f : Front) (ss : List Step) (any : Bool) → begins_new ss ≡ false → holds_kept ss ≡ any → (any ≡ true → leaves_break ss ≡ true)
    → (any ≡ false → leaves_blank f ss ≡ false) → tail f ss ≡ replicate (one_if any) 10
tail_by f ss true o h l b =
    ap (λ (c : Bool). if c then [] else (if holds_kept ss then tail_before ss else tail_at_end f ss)) o
    ∙ ap (λ (c : Bool). if c then tail_before ss else tail_at_end f ss) h
    ∙ ap (λ (c : Bool). if c then byte.line_break ∷ [] else byte.line_break ∷ byte.line_break ∷ []) (l refl)
tail_by f ss false o h l b =
    ap (λ (c : Bool). if c then [] else (if holds_kept ss then tail_before ss else tail_at_end f ss)) o
    ∙ ap (λ (c : Bool). if c then tail_before ss else tail_at_end f ss) h
    ∙ ap (λ (c : Bool). if c then byte.line_break ∷ [] else []) (b refl)

pub tails : (k m : ℕ) (after : List Item) (cs : List PassageChange) (f : Front) → Apart k cs
    → tail f (steps_after k m after cs) ≡ replicate (one_if (any_stays cs)) 10
tails k m after cs f h =
    tail_by f (steps_after k m after cs) (any_stays cs) (opens k m after cs h) (holds k m after cs) (λ e. leaves k m after cs h e) (λ e. blanks k m after cs f h)

-- ---- at the page's start

abbrev pub tail_first : List PassageChange → ℕ
tail_first [] = 0
tail_first (stays p u xs ∷ cs) = 2
tail_first (goes p ∷ cs) = one_if (any_stays cs)

pub first_tails : (n : ℕ) (before : List Item) (cs : List PassageChange) (at : ℕ) (s : Bool) → AreProse (passages_before cs)
    → tail (record { at = at; is_start = s; is_parted = true }) (steps_of (coming_of n before cs)) ≡ replicate (tail_first cs) 10
first_tails n before [] at s h = absurd h
first_tails n before (stays p u xs ∷ cs) at s h = refl
first_tails n before (goes p ∷ cs) at s h =
    let k : ℕ = p.breaks in
    let m : ℕ = number_past n before p in
    let after : List Item = items_past before p in
    let f : Front = record { at = at; is_start = s; is_parted = true } in
    let node : Tree = passage_node n before p in
    let rest : List Step = steps_after k m after cs in
    let g : Apart k cs = apart_of p cs h in
    let blank : leaves_blank f (steps_of (coming_of n before (goes p ∷ cs))) ≡ false =
    ap (λ (b : Bool). said_or (false_unless b) (leaves_blank (past_node f node) rest)) (parted k m after cs g) ∙ blanks k m after cs (past_node f node) g in
    tail_by f (steps_of (coming_of n before (goes p ∷ cs))) (any_stays cs) refl (holds k m after cs) (λ e. leaves k m after cs g e) (λ e. blank)

-- ---- several new ones side by side

-- after one with these behind it
abbrev pub tail_of : List (List ℕ) → ℕ → List ℕ
tail_of [] n = replicate n 10
tail_of (text ∷ texts) n = []

pub tails_added : (f : Front) (xs : List Addition) (cs : Coming) (n : ℕ) → tail f (steps_of cs) ≡ replicate n 10
    → tail f (steps_of (with_added xs cs)) ≡ tail_of (new_texts xs) n
tails_added f [] cs n e = e
tails_added f (white x ∷ xs) cs n e = tails_added f xs cs n e
tails_added f (paragraph m x text ∷ xs) cs n e = refl

-- ---- what is written of a new one

pub new_spelled : (same : Same) (m x : Label) (text : List ℕ) → block_spelling same (new_paragraph m x text) byte.asterisk ≡ spelled_new text
unfolding block_spelling kept_with chars
new_spelled same m x [] = refl
new_spelled same m x (c ∷ cs) = ap (spelled (record { within = false; place = place.Paragraph; source = [] })) (append-nil (letters (c ∷ cs)))

-- ---- nothing is replaced in one that stays

pub no_slices : (same : Same) (page : Page) (t u : Tree) → StandsAsIs t u → child_slices same page u ≡ []
no_slices same page (tree l ts) (tree m us) h =
    ap (λ (c : Mark). if is_children c then list_at same page (page m.id) us else insides same page (tree m us)) h.0.unmarked
    ∙ no_insides same page (tree m us) (no_mark (tree l ts) (tree m us) h)
