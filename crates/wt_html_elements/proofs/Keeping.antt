-- What is held of the bytes that were fed.
use Rattle.std.proofs.Common.{◌≡◌, ℕ, suc, ◌<◌, true, List, [], ◌∷◌, ◌++◌, length, refl, sym, ap, ◌∙◌, subst, append_assoc, arith}
use Rattle.std.proofs.lemmas.List.{append-nil}
use Rattle.std.proofs.lemmas.Bool.Decides.{nat_tests}
use Rattle.std.proofs.lemmas.Str.{encode_ascii}
use lib.Utf8.{low_scalar}
use Rattle.wt_html_grammar.specs.Signs.{is_space, in_text, IsName, IsGap}
use Rattle.wt_html_grammar.specs.Grammar.{plain, spell_piece, Attribute, spell_attributes, AreAttributes, bare, slash, Element, Items, element, void, none, sign as sign_of_items, child, spell, spell_items, IsElement, AreItems, Document, spell_document, Head, spell_head, MayBeDoctype, IsHead, Well, Front}
use Rattle.wt_html_elements.specs.Kept.{Token, start_tag, end_tag, declaration, sign, spell_token, IsToken, spell_tokens, AreTokens, IsBegun, IsKept}
use Rattle.wt_html_elements.proofs.Scan.{outside, counted, IsOne, one_counted, part_counted}
use Rattle.wt_html_elements.proofs.Tokens.{token_one}

-- bytes that are whole tokens
pub record IsWhole (bytes : List ℕ) : Type 0 where
  pub tokens : List Token
  pub are_tokens : AreTokens tokens
  pub spelled : bytes ≡ spell_tokens tokens

pub whole_none : IsWhole []
whole_none = record { tokens = []; are_tokens = tt; spelled = refl }

pub whole_one : (t : Token) → IsToken t → IsWhole (spell_token t)
whole_one t h = record { tokens = t ∷ []; are_tokens = (h, tt); spelled = sym (append-nil (spell_token t)) }

are_joined : (ts us : List Token) → AreTokens ts → AreTokens us → AreTokens (ts ++ us)
are_joined [] us h g = g
are_joined (t ∷ ts) us h g = (h.0, are_joined ts us h.1 g)

spell_joined : (ts us : List Token) → spell_tokens (ts ++ us) ≡ spell_tokens ts ++ spell_tokens us
spell_joined [] us = refl
spell_joined (t ∷ ts) us = ap (λ x. spell_token t ++ x) (spell_joined ts us) ∙ sym (append_assoc (spell_token t) (spell_tokens ts) (spell_tokens us))

pub whole_join : (xs ys : List ℕ) → IsWhole xs → IsWhole ys → IsWhole (xs ++ ys)
whole_join xs ys h g = record {
  tokens = h.tokens ++ g.tokens;
  are_tokens = are_joined h.tokens g.tokens h.are_tokens g.are_tokens;
  spelled = ap (λ x. x ++ ys) h.spelled ∙ ap (λ x. spell_tokens h.tokens ++ x) g.spelled ∙ sym (spell_joined h.tokens g.tokens);
}

pub whole_as : (xs ys : List ℕ) → xs ≡ ys → IsWhole xs → IsWhole ys
whole_as xs ys e h = let P : List ℕ → Type 0 = IsWhole in subst P e h

-- they leave nothing
tokens_counted : (ts : List Token) (rest : List ℕ) → AreTokens ts → counted outside 0 (spell_tokens ts ++ rest) ≡ counted outside 0 rest
tokens_counted [] rest h = refl
tokens_counted (t ∷ ts) rest h =
    ap (counted outside 0) (append_assoc (spell_token t) (spell_tokens ts) rest)
    ∙ one_counted (spell_token t) (spell_tokens ts ++ rest) (token_one t h.0) ∙ tokens_counted ts rest h.1

pub whole_counted : (bytes rest : List ℕ) → IsWhole bytes → counted outside 0 (bytes ++ rest) ≡ counted outside 0 rest
whole_counted bytes rest h = ap (λ x. counted outside 0 (x ++ rest)) h.spelled ∙ tokens_counted h.tokens rest h.are_tokens

-- how much is held is one number
held_counted : (bytes : List ℕ) → IsBegun bytes → counted outside 0 bytes ≡ length bytes
held_counted bytes h =
    let P : List ℕ → Type 0 = IsOne in
    part_counted bytes h.more (subst P (sym h.spelled) (token_one h.token h.is_token)) h.some

pub kept_counted : (bytes : List ℕ) (k : ℕ) → IsKept bytes k → k ≡ counted outside 0 bytes
kept_counted bytes k h =
    sym h.long ∙ sym (held_counted h.held h.is_begun) ∙ sym (tokens_counted h.tokens h.held h.are_tokens) ∙ ap (counted outside 0) (sym h.split)

pub kept_once : (bytes : List ℕ) (m n : ℕ) → IsKept bytes m → IsKept bytes n → m ≡ n
kept_once bytes m n h g = kept_counted bytes m h ∙ sym (kept_counted bytes n g)

-- the tokens of a document
space_whole : (c : ℕ) → is_space c ≡ true → IsWhole (c ∷ [])
space_whole c e = whole_as (spell_piece (plain c)) (c ∷ []) (encode_ascii c (low c e))
    (whole_one (sign (plain c)) (low_scalar c (omega (arith, low c e)), not_mark c e))
  where
    low : (c : ℕ) → is_space c ≡ true → c < 128
    low c e = grind (arith, nat_tests)

    not_mark : (c : ℕ) → is_space c ≡ true → in_text c ≡ true
    not_mark c e = grind (arith, nat_tests)

pub gap_whole : (g : List ℕ) → IsGap g → IsWhole g
gap_whole [] h = whole_none
gap_whole (c ∷ cs) h = whole_join (c ∷ []) cs (space_whole c h.0) (gap_whole cs h.1)

pub start_whole : (name : List ℕ) (attributes : List Attribute) (gap : List ℕ) → IsName name → AreAttributes [] attributes → IsGap gap
    → IsWhole (60 ∷ (name ++ (spell_attributes attributes ++ (gap ++ 62 ∷ []))))
start_whole name attributes gap n a g = whole_one (start_tag name attributes gap bare) (n, a, g, tt)

pub end_whole : (name gap : List ℕ) → IsName name → IsGap gap → IsWhole (60 ∷ 47 ∷ (name ++ (gap ++ 62 ∷ [])))
end_whole name gap n g = whole_one (end_tag name gap) (n, g)

around : (name tag gap end items : List ℕ) → (60 ∷ (name ++ (tag ++ (gap ++ 62 ∷ [])))) ++ (items ++ (60 ∷ 47 ∷ (name ++ (end ++ 62 ∷ []))))
    ≡ 60 ∷ (name ++ (tag ++ (gap ++ (62 ∷ (items ++ (60 ∷ 47 ∷ (name ++ (end ++ 62 ∷ []))))))))
around name tag gap end items = simp append_assoc

mutual
  pub element_whole : (k : ℕ) (e : Element) → IsElement k e → IsWhole (spell e)
  element_whole k (element name attributes gap items end) h =
      whole_as _ _ (around name (spell_attributes attributes) gap end (spell_items items))
      (whole_join (60 ∷ (name ++ (spell_attributes attributes ++ (gap ++ 62 ∷ [])))) _ (start_whole name attributes gap h.1 h.2 h.3)
      (whole_join (spell_items items) _ (items_whole (suc k) items h.4) (end_whole name end h.1 h.5)))
  element_whole k (void name attributes gap bare) h = whole_one (start_tag name attributes gap bare) (h.1, h.2, h.3, tt)
  element_whole k (void name attributes gap slash) h = whole_one (start_tag name attributes gap slash) (h.1, h.2, h.3, h.4)

  pub items_whole : (k : ℕ) (items : Items) → AreItems k items → IsWhole (spell_items items)
  items_whole k none h = whole_none
  items_whole k (sign_of_items p items) h = whole_join (spell_piece p) (spell_items items) (whole_one (sign p) h.0) (items_whole k items h.1)
  items_whole k (child e items) h = whole_join (spell e) (spell_items items) (element_whole k e h.0) (items_whole k items h.1)

word_whole : (word : List ℕ) → MayBeDoctype word → IsWhole word
word_whole [] h = whole_none
word_whole (b ∷ bs) h = whole_one (declaration (b ∷ bs)) h

pub head_whole : (h : Head) → IsHead h → IsWhole (spell_head h)
head_whole h i = whole_join h.lead (h.doctype ++ h.gap) (gap_whole h.lead i.0) (whole_join h.doctype h.gap (word_whole h.doctype i.1) (gap_whole h.gap i.2))

well_whole : (bytes : List ℕ) → Well bytes → IsWhole bytes
well_whole bytes w =
    let d : Document = w.0 in
    whole_as (spell_document d) bytes (sym w.2)
    (whole_join (spell_head d.head) (spell d.root ++ d.end) (head_whole d.head w.1.0)
    (whole_join (spell d.root) d.end (element_whole 0 d.root w.1.1) (gap_whole d.end w.1.2)))

-- a list is within a part of another, or has all of it
pub data Split (xs ys us vs : List ℕ) : Type 0 where
  within : (w : List ℕ) → 0 < length w → xs ++ w ≡ us → Split xs ys us vs
  past : (w : List ℕ) → xs ≡ us ++ w → w ++ ys ≡ vs → Split xs ys us vs

split_next : (b : ℕ) (xs ys us vs : List ℕ) → Split xs ys us vs → Split (b ∷ xs) ys (b ∷ us) vs
split_next b xs ys us vs (within w lt e) = within w lt (ap (λ x. b ∷ x) e)
split_next b xs ys us vs (past w e f) = past w (ap (λ x. b ∷ x) e) f

split : (xs ys us vs : List ℕ) → xs ++ ys ≡ us ++ vs → Split xs ys us vs
split xs ys [] vs e = past xs refl e
split [] ys (u ∷ us) vs e = within (u ∷ us) (omega arith) refl
split (x ∷ xs) ys (u ∷ us) vs e =
    let P : ℕ → Type 0 = λ b. Split (b ∷ xs) ys (u ∷ us) vs in
    subst P (sym (head_same x u _ _ e)) (split_next u xs ys us vs (split xs ys us vs (tail_same x u _ _ e)))
  where
    head_same : (x u : ℕ) (us ws : List ℕ) → x ∷ us ≡ u ∷ ws → x ≡ u
    head_same x u us ws e = cc

    tail_same : (x u : ℕ) (us ws : List ℕ) → x ∷ us ≡ u ∷ ws → us ≡ ws
    tail_same x u us ws e = cc

abbrev pub SomeKept : List ℕ → Type 0
SomeKept bytes = (k : ℕ) × IsKept bytes k

begun_none : IsBegun []
begun_none = record { token = sign (plain 97); is_token = (refl, refl); more = 97 ∷ []; some = omega arith; spelled = sym (encode_ascii 97 (omega arith)) }

pub none_kept : IsKept [] 0
none_kept = record { tokens = []; are_tokens = tt; held = []; is_begun = begun_none; split = refl; long = refl }

nil_left : (xs ys : List ℕ) → xs ++ ys ≡ [] → xs ≡ []
nil_left [] ys e = refl
nil_left (x ∷ xs) ys e = absurd cc

kept_behind : (t : Token) (w bytes : List ℕ) → IsToken t → bytes ≡ spell_token t ++ w → SomeKept w → SomeKept bytes
kept_behind t w bytes i e h = (
  h.0,
  record {
    tokens = t ∷ h.1.tokens;
    are_tokens = (i, h.1.are_tokens);
    held = h.1.held;
    is_begun = h.1.is_begun;
    split = e ∙ ap (λ x. spell_token t ++ x) h.1.split ∙ sym (append_assoc (spell_token t) (spell_tokens h.1.tokens) h.1.held);
    long = h.1.long;
  },
)

-- what begins whole tokens
front_kept : (ts : List Token) (bytes more : List ℕ) → AreTokens ts → bytes ++ more ≡ spell_tokens ts → SomeKept bytes
front_kept [] bytes more h e =
    (0, record { tokens = []; are_tokens = tt; held = []; is_begun = begun_none; split = nil_left bytes more e; long = refl })
front_kept (t ∷ ts) bytes more h e = by (λ w g. front_kept ts w more h.1 g) (split bytes more (spell_token t) (spell_tokens ts) e)
  where
    by : ((w : List ℕ) → w ++ more ≡ spell_tokens ts → SomeKept w) → Split bytes more (spell_token t) (spell_tokens ts) → SomeKept bytes
    by next (within w lt f) = (
      length bytes,
      record {
        tokens = [];
        are_tokens = tt;
        held = bytes;
        is_begun = record { token = t; is_token = h.0; more = w; some = lt; spelled = f };
        split = refl;
        long = refl;
      },
    )
    by next (past w f g) = kept_behind t w bytes h.0 f (next w g)

pub kept_of_front : (bytes : List ℕ) → Front bytes → SomeKept bytes
kept_of_front bytes f =
    let w : IsWhole (bytes ++ f.0) = well_whole (bytes ++ f.0) f.1 in
    front_kept w.tokens bytes f.0 w.are_tokens w.spelled
