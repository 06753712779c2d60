-- Texts among nodes that could go on behind their end: as they are computed, and in other words.
use Rattle.std.proofs.Common.{◌≡◌, ◌↔◌, ◌⊎◌, inl, inr, ℕ, Bool, true, false, List, [], ◌∷◌, ◌++◌, refl, sym, ap, ◌∙◌, subst}
use Rattle.std.proofs.Common.{append_assoc, append-nil}
use Rattle.std.specs.Prelude.{◌||◌, ◌&&◌, if◌then◌else◌, reverse}
use Rattle.std.specs.List.{list_all}
use Rattle.std.proofs.lemmas.List.{reverse-append}
use Rattle.wt_tree.specs.Tree.{Tree, tree, Trees, none, more, Label, label, listed, trees}
use Rattle.wt_tree.specs.declared.edit_shape.InlineForm.{InlineForm}
use Rattle.wt_tree.specs.declared.edit_shape.InlineForm.TheVariants as inline
use Rattle.wt_tree.specs.EditShapes.{edit_shape}
use Rattle.wt_isolation.specs.OpenTexts.{begins_bracket, begins_open, ended_by, ends_with_bracket, has_open_text, holds_open, in_style}
use Rattle.wt_isolation.specs.OpenTexts.{is_open_before, is_text, open_text_at}
use Rattle.wt_isolation.specs.TangledLaws.{AreTexts, HasOpenStyle, HasOpenText, IsOpenStyle, StandsOpen, first_way, is_text_node, shown_in}

-- ---- truth values

or_left : (a b : Bool) → a ≡ true → (a || b) ≡ true
or_left true b e = refl
or_left false b e = absurd (cc)

or_right : (a b : Bool) → b ≡ true → (a || b) ≡ true
or_right true b e = refl
or_right false b e = e

or_map : (a b c : Bool) → (a ≡ true → b ≡ true) → (a || c) ≡ true → (b || c) ≡ true
or_map true b c f e = or_left b c (f refl)
or_map false b c f e = or_right b c e

both : (a b : Bool) → (a && b) ≡ true → (a ≡ true) × (b ≡ true)
both true b e = (refl, e)
both false b e = absurd (cc)

both_hold : (a b : Bool) → a ≡ true → b ≡ true → (a && b) ≡ true
both_hold true b e f = f
both_hold false b e f = absurd (cc)

-- ---- ways

styled : (w : InlineForm) (b : Bool) → in_style w b ≡ true → (in_style w true ≡ true) × (b ≡ true)
styled inline.Nothing b e = absurd (cc)
styled inline.Characters b e = absurd (cc)
styled inline.Bold b e = (refl, e)
styled inline.Italic b e = (refl, e)
styled inline.Shown b e = absurd (cc)
styled inline.PageLink b e = absurd (cc)
styled inline.ExternalLink b e = absurd (cc)
styled inline.Tag b e = absurd (cc)
styled inline.Break b e = absurd (cc)
styled inline.AsItStood b e = absurd (cc)

style_is_no_text : (w : InlineForm) → in_style w true ≡ true → is_text w ≡ false
style_is_no_text inline.Nothing e = refl
style_is_no_text inline.Characters e = absurd (cc)
style_is_no_text inline.Bold e = refl
style_is_no_text inline.Italic e = refl
style_is_no_text inline.Shown e = refl
style_is_no_text inline.PageLink e = refl
style_is_no_text inline.ExternalLink e = refl
style_is_no_text inline.Tag e = refl
style_is_no_text inline.Break e = refl
style_is_no_text inline.AsItStood e = refl

-- ---- more bytes before a text

holds_behind : (before text : List ℕ) → holds_open text ≡ true → holds_open (before ++ text) ≡ true
holds_behind [] text e = e
holds_behind (b ∷ bs) text e = or_right (begins_open (b ∷ bs ++ text)) (holds_open (bs ++ text)) (holds_behind bs text e)

begins_still : (bs cs : List ℕ) → begins_bracket bs ≡ true → begins_bracket (bs ++ cs) ≡ true
begins_still [] cs e = absurd (cc)
begins_still (b ∷ bs) cs e = e

ends_behind : (before text : List ℕ) → ends_with_bracket text ≡ true → ends_with_bracket (before ++ text) ≡ true
ends_behind before text e = ap begins_bracket (reverse-append before text) ∙ begins_still (reverse text) (reverse before) e

open_behind : (w : InlineForm) (before text : List ℕ) → is_open_before w text ≡ true → is_open_before w (before ++ text) ≡ true
open_behind inline.Nothing before text e = holds_behind before text e
open_behind inline.Characters before text e = holds_behind before text e
open_behind inline.Bold before text e = holds_behind before text e
open_behind inline.Italic before text e = holds_behind before text e
open_behind inline.Shown before text e = holds_behind before text e
open_behind inline.PageLink before text e = holds_behind before text e
open_behind inline.ExternalLink before text e =
    or_map (holds_open text) (holds_open (before ++ text)) (ends_with_bracket (before ++ text)) (holds_behind before text)
    (later (holds_open text) refl e)
  where
    later : (b : Bool) → holds_open text ≡ b → (b || ends_with_bracket text) ≡ true → (holds_open text || ends_with_bracket (before ++ text)) ≡ true
    later true q f = or_left (holds_open text) (ends_with_bracket (before ++ text)) q
    later false q f = or_right (holds_open text) (ends_with_bracket (before ++ text)) (ends_behind before text f)
open_behind inline.Tag before text e = holds_behind before text e
open_behind inline.Break before text e = holds_behind before text e
open_behind inline.AsItStood before text e = holds_behind before text e

-- ---- one node

abbrev way_of : Label → InlineForm
way_of l = (edit_shape l.kind).inline

abbrev inside : Trees → Bool
inside ts = has_open_text [] ts

text_on : (l : Label) (us : Trees) (text : List ℕ) (rest : List ℕ → Bool) → is_text (way_of l) ≡ true
    → open_text_at text (tree l us) rest ≡ rest (text ++ l.shown)
text_on l us text rest e = ap (λ b. if b then rest (text ++ l.shown) else ended_by (way_of l) text (inside us) rest) e

text_off : (l : Label) (us : Trees) (text : List ℕ) (rest : List ℕ → Bool) → is_text (way_of l) ≡ false
    → open_text_at text (tree l us) rest ≡ (is_open_before (way_of l) text || (in_style (way_of l) (inside us) || rest []))
text_off l us text rest e = ap (λ b. if b then rest (text ++ l.shown) else ended_by (way_of l) text (inside us) rest) e

-- ---- what is computed stands there

texts_pushed : (ts : List Tree) (t : Tree) → AreTexts ts → is_text_node t ≡ true → AreTexts (ts ++ t ∷ [])
texts_pushed [] t a e = both_hold (is_text_node t) true e refl
texts_pushed (u ∷ us) t a e =
    let halves = both (is_text_node u) (list_all is_text_node us) a in
    both_hold (is_text_node u) (list_all is_text_node (us ++ t ∷ [])) halves.0 (texts_pushed us t halves.1 e)

shown_pushed : (ts : List Tree) (t : Tree) → shown_in ts ++ (label t).shown ≡ shown_in (ts ++ t ∷ [])
shown_pushed [] t = sym (append-nil (label t).shown)
shown_pushed (u ∷ us) t =
    append_assoc (label u).shown (shown_in us) (label t).shown ∙ ap (λ (bs : List ℕ). (label u).shown ++ bs) (shown_pushed us t)

moved : (xs ys : List Tree) (P : Type 0) → xs ≡ ys → StandsOpen xs ⊎ P → StandsOpen ys ⊎ P
moved xs ys P e h = let Q : List Tree → Type 0 = λ zs. StandsOpen zs ⊎ P in subst Q e h

behind : (before xs : List Tree) (P : Type 0) → StandsOpen xs ⊎ P → StandsOpen (before ++ xs) ⊎ P
behind before xs P (inr p) = inr p
behind before xs P (inl (first, texts, after, is, all, ends, opens)) =
    inl (
      before ++ first,
      texts,
      after,
      ap (λ (ys : List Tree). before ++ ys) is ∙ sym (append_assoc before first (texts ++ after)),
      all,
      ends,
      opens,
    )

in_or_behind : (P Q S : Type 0) → P ⊎ S → P ⊎ (Q ⊎ S)
in_or_behind P Q S (inl p) = inl p
in_or_behind P Q S (inr s) = inr (inr s)

node_read : (ts : List Tree) (l : Label) (us : Trees) (xs : List Tree) (rest : List ℕ → Bool) (P : Type 0) → AreTexts ts
    → ((vs : List Tree) → AreTexts vs → rest (shown_in vs) ≡ true → StandsOpen (vs ++ xs) ⊎ P) → (inside us ≡ true → HasOpenText us)
    → open_text_at (shown_in ts) (tree l us) rest ≡ true → StandsOpen (ts ++ tree l us ∷ xs) ⊎ (IsOpenStyle (tree l us) ⊎ P)
node_read ts l us xs rest P all go deep e = by (is_text (way_of l)) refl
  where
    t : Tree
    t = tree l us

    Answer : Type 0
    Answer = StandsOpen (ts ++ t ∷ xs) ⊎ (IsOpenStyle t ⊎ P)

    through : (b : Bool) → in_style (way_of l) (inside us) ≡ b → (b || rest []) ≡ true → Answer
    through true q f = let both = styled (way_of l) (inside us) q in inr (inl (both.0, deep both.1))
    through false q f =
        in_or_behind (StandsOpen (ts ++ t ∷ xs)) (IsOpenStyle t) P
        (moved ((ts ++ t ∷ []) ++ xs) (ts ++ t ∷ xs) P (append_assoc ts (t ∷ []) xs) (behind (ts ++ t ∷ []) xs P (go [] refl f)))

    ends : is_text (way_of l) ≡ false → (b : Bool) → is_open_before (way_of l) (shown_in ts) ≡ b
        → (b || (in_style (way_of l) (inside us) || rest [])) ≡ true → Answer
    ends q true is f = inl ([], ts, t ∷ xs, refl, all, q, is)
    ends q false is f = through (in_style (way_of l) (inside us)) refl f

    by : (b : Bool) → is_text (way_of l) ≡ b → Answer
    by true q =
        in_or_behind (StandsOpen (ts ++ t ∷ xs)) (IsOpenStyle t) P
        (moved ((ts ++ t ∷ []) ++ xs) (ts ++ t ∷ xs) P (append_assoc ts (t ∷ []) xs)
        (go (ts ++ t ∷ []) (texts_pushed ts t all q)
        (ap rest (sym (shown_pushed ts t)) ∙ sym (text_on l us (shown_in ts) rest q) ∙ e)))
    by false q = ends q (is_open_before (way_of l) (shown_in ts)) refl (sym (text_off l us (shown_in ts) rest q) ∙ e)

mutual
  read_node : (ts : List Tree) (t : Tree) (us : Trees) → AreTexts ts
      → ((vs : List Tree) → AreTexts vs → has_open_text (shown_in vs) us ≡ true → StandsOpen (vs ++ listed us) ⊎ HasOpenStyle us)
      → open_text_at (shown_in ts) t (λ next. has_open_text next us) ≡ true
      → StandsOpen (ts ++ t ∷ listed us) ⊎ (IsOpenStyle t ⊎ HasOpenStyle us)
  read_node ts (tree l vs) us all go e =
      node_read ts l vs (listed us) (λ next. has_open_text next us) (HasOpenStyle us) all go (λ f. read_nodes [] vs refl f) e

  read_nodes : (ts : List Tree) (us : Trees) → AreTexts ts → has_open_text (shown_in ts) us ≡ true → StandsOpen (ts ++ listed us) ⊎ HasOpenStyle us
  read_nodes ts none all e = inl ([], ts, [], refl, all, refl, e)
  read_nodes ts (more t us) all e = read_node ts t us all (λ vs a f. read_nodes vs us a f) e

-- ---- what stands there is computed

text_behind : (before text : List ℕ) (ts : Trees) → has_open_text text ts ≡ true → has_open_text (before ++ text) ts ≡ true
text_behind before text none e = holds_behind before text e
text_behind before text (more (tree l us) ts) e = by (is_text (way_of l)) refl (λ f. text_behind before (text ++ l.shown) ts f)
  where
    rest : List ℕ → Bool
    rest next = has_open_text next ts

    by : (b : Bool) → is_text (way_of l) ≡ b
        → (has_open_text (text ++ l.shown) ts ≡ true → has_open_text (before ++ (text ++ l.shown)) ts ≡ true)
        → open_text_at (before ++ text) (tree l us) rest ≡ true
    by true q h =
        text_on l us (before ++ text) rest q ∙ ap rest (append_assoc before text l.shown) ∙ h (sym (text_on l us text rest q) ∙ e)
    by false q h =
        text_off l us (before ++ text) rest q
        ∙ or_map (is_open_before (way_of l) text) (is_open_before (way_of l) (before ++ text)) (in_style (way_of l) (inside us) || rest [])
        (open_behind (way_of l) before text) (sym (text_off l us text rest q) ∙ e)

ended : (text : List ℕ) (after : List Tree) → is_text (first_way after) ≡ false → is_open_before (first_way after) text ≡ true
    → has_open_text text (trees after) ≡ true
ended text [] q e = e
ended text (tree l us ∷ xs) q e =
    text_off l us text (λ next. has_open_text next (trees xs)) q
    ∙ or_left (is_open_before (way_of l) text) (in_style (way_of l) (inside us) || has_open_text [] (trees xs)) e

texts_read : (texts after : List Tree) (text : List ℕ) → AreTexts texts → has_open_text (text ++ shown_in texts) (trees after) ≡ true
    → has_open_text text (trees (texts ++ after)) ≡ true
texts_read [] after text all e = ap (λ (bs : List ℕ). has_open_text bs (trees after)) (sym (append-nil text)) ∙ e
texts_read (tree l us ∷ ts) after text all e =
    let halves = both (is_text (way_of l)) (list_all is_text_node ts) all in
    text_on l us text (λ next. has_open_text next (trees (ts ++ after))) halves.0
    ∙ texts_read ts after (text ++ l.shown) halves.1
    (ap (λ (bs : List ℕ). has_open_text bs (trees after)) (append_assoc text l.shown (shown_in ts)) ∙ e)

anywhere : (before xs : List Tree) → has_open_text [] (trees xs) ≡ true → (text : List ℕ) → has_open_text text (trees (before ++ xs)) ≡ true
anywhere [] xs e text = ap (λ (bs : List ℕ). has_open_text bs (trees xs)) (sym (append-nil text)) ∙ text_behind text [] (trees xs) e
anywhere (tree l us ∷ ts) xs e text = by (is_text (way_of l)) refl (anywhere ts xs e (text ++ l.shown)) (anywhere ts xs e [])
  where
    rest : List ℕ → Bool
    rest next = has_open_text next (trees (ts ++ xs))

    by : (b : Bool) → is_text (way_of l) ≡ b → rest (text ++ l.shown) ≡ true → rest [] ≡ true → open_text_at text (tree l us) rest ≡ true
    by true q on anew = text_on l us text rest q ∙ on
    by false q on anew =
        text_off l us text rest q
        ∙ or_right (is_open_before (way_of l) text) (in_style (way_of l) (inside us) || rest [])
        (or_right (in_style (way_of l) (inside us)) (rest []) anew)

trees_listed : (ts : Trees) → trees (listed ts) ≡ ts
trees_listed none = refl
trees_listed (more t ts) = ap (more t) (trees_listed ts)

standing_read : (ts : Trees) → StandsOpen (listed ts) → (text : List ℕ) → has_open_text text ts ≡ true
standing_read ts (before, texts, after, is, all, q, opens) text =
    ap (has_open_text text) (sym (trees_listed ts) ∙ ap trees is)
    ∙ anywhere before (texts ++ after) (texts_read texts after [] all (ended (shown_in texts) after q opens)) text

style_read : (l : Label) (us : Trees) (text : List ℕ) (rest : List ℕ → Bool) → in_style (way_of l) true ≡ true → inside us ≡ true
    → open_text_at text (tree l us) rest ≡ true
style_read l us text rest q e =
    text_off l us text rest (style_is_no_text (way_of l) q)
    ∙ or_right (is_open_before (way_of l) text) (in_style (way_of l) (inside us) || rest [])
    (or_left (in_style (way_of l) (inside us)) (rest []) (ap (in_style (way_of l)) e ∙ q))

passed : (l : Label) (us : Trees) (text : List ℕ) (rest : List ℕ → Bool) → ((next : List ℕ) → rest next ≡ true)
    → open_text_at text (tree l us) rest ≡ true
passed l us text rest h = by (is_text (way_of l)) refl
  where
    by : (b : Bool) → is_text (way_of l) ≡ b → open_text_at text (tree l us) rest ≡ true
    by true q = text_on l us text rest q ∙ h (text ++ l.shown)
    by false q =
        text_off l us text rest q
        ∙ or_right (is_open_before (way_of l) text) (in_style (way_of l) (inside us) || rest [])
        (or_right (in_style (way_of l) (inside us)) (rest []) (h []))

mutual
  style_holds : (t : Tree) → IsOpenStyle t → (text : List ℕ) (rest : List ℕ → Bool) → open_text_at text t rest ≡ true
  style_holds (tree l us) (q, inl h) text rest = style_read l us text rest q (standing_read us h [])
  style_holds (tree l us) (q, inr h) text rest = style_read l us text rest q (styles_hold us h [])

  styles_hold : (ts : Trees) → HasOpenStyle ts → (text : List ℕ) → has_open_text text ts ≡ true
  styles_hold none h text = absurd h
  styles_hold (more t ts) (inl h) text = style_holds t h text (λ next. has_open_text next ts)
  styles_hold (more (tree l us) ts) (inr h) text = passed l us text (λ next. has_open_text next ts) (λ next. styles_hold ts h next)

computed : (ts : Trees) → HasOpenText ts → has_open_text [] ts ≡ true
computed ts (inl h) = standing_read ts h []
computed ts (inr h) = styles_hold ts h []

pub standing_open : (ts : Trees) → (has_open_text [] ts ≡ true) ↔ HasOpenText ts
standing_open ts = (read_nodes [] ts refl, computed ts)
