-- Where the machine stands between tokens, nothing is held; elsewhere something is.
use Rattle.std.proofs.Common.{◌≡◌, ℕ, zero, suc, Option, Some, None, ◌+◌, ◌<◌, ◌≤◌, Bool, true, false, Ok, List, [], ◌∷◌, ◌++◌, length, map, refl, sym, ap, ◌∙◌, subst, append_assoc, length-append, nat_lt, arith, codes, inl, inr, lit≤}
use Rattle.std.specs.Prelude.{◌==◌, ◌⊎◌, not, if◌then◌else◌}
use Rattle.std.specs.Char.{to_ascii_lowercase}
use Rattle.std.proofs.lemmas.List.{append-nil}
use Rattle.wt_html_grammar.specs.declared.names.EscapeName.{EscapeName}
use Rattle.wt_html_grammar.specs.declared.names.EscapeName.TheVariants.{Amp, Lt, Gt, Quot, Apos, Nbsp}
use Rattle.std.proofs.lemmas.Bool.Decides.{nat_tests}
use Rattle.wt_html_grammar.specs.Signs.{is_quote, is_name_byte, in_value, between, Follow, follow, IsFollow, Follows, letters_of, Each, IsName, IsAttributeName, IsGap, IsWideGap}
use Rattle.wt_html_grammar.specs.Grammar.{Piece, spell_attributes, AreAttributes, spell_pieces, ArePieces, spell_items, spell, spell_head, doctype as doctype_word}
use Rattle.wt_html_grammar.specs.Machine.{State, start, doctype, mended, step, run}
use Rattle.wt_html_grammar.proofs.Steps.{if_false}
use Rattle.wt_html_grammar.proofs.Places.{run_push}
use Rattle.wt_html_grammar.proofs.Reading.{high_follow, first_eq, others_eq, small_less}
use Rattle.wt_html_grammar.proofs.Partial.{Level, Opening, Begun, b_ampersand, b_apart, b_letters, b_sharp, b_digits, b_wide, Partial, p_text, p_less, p_naming, p_gap, p_attribute, p_named, p_equals, p_value, p_slashed, p_valued, p_closing, p_closed, p_done, p_escaping, opened, levels, in_tag as in_tag_bytes, in_end, escape_bytes, written, seen, Sound, IsLevel, AreLevels, IsBegunEscape}
use Rattle.wt_html_grammar.proofs.Whole.{front_of, reached, Ahead, a_lead, a_first, a_word, a_gap, state_of, bytes_of, IsAhead, InHead, Behind}
use Rattle.wt_html_elements.specs.Kept.{IsKept, is_between, declaration}
use Rattle.wt_html_elements.proofs.Scan.{Scan, outside, in_tag, in_value as inside_value, in_escape, in_wide, wide_of, scan, counted, Leads, IsOpen, leads_then, open_some, OneMore, over, grown, push_counted}
use Rattle.wt_html_elements.proofs.Tokens.{each_leads, names_lead, name_each, keys_lead, key_each, gap_leads, wide_each, Others, others_lead, digits_others, value_leads, equals_leads, begun_tag, number_leads, scan_high, word_leads, middle, follow_low, follows_high}
use Rattle.wt_html_elements.proofs.Keeping.{IsWhole, whole_none, whole_one, whole_join, whole_as, whole_counted, gap_whole, start_whole, element_whole, items_whole, head_whole, kept_counted, kept_of_front}

-- what the state says of how many bytes are held
abbrev Tells : Bool → ℕ → Type 0
Tells true k = k ≡ 0
Tells false k = 0 < k

abbrev pub TellsOf : State → List ℕ → Type 0
TellsOf s bytes = Tells (is_between s) (counted outside 0 bytes)

whole_zero : (bytes : List ℕ) → IsWhole bytes → counted outside 0 bytes ≡ 0
whole_zero bytes h = ap (counted outside 0) (sym (append-nil bytes)) ∙ whole_counted bytes [] h

behind_some : (front bytes : List ℕ) → IsWhole front → IsOpen bytes → 0 < counted outside 0 (front ++ bytes)
behind_some front bytes h o = omega (arith, whole_counted front bytes h, open_some bytes o)

-- open elements
opened_whole : (k : ℕ) (l : Level) → IsLevel k l → IsWhole (opened l)
opened_whole k l h =
    whole_as _ _ (simp append_assoc)
    (whole_join (60 ∷ (l.name ++ (spell_attributes l.attributes ++ (l.gap ++ 62 ∷ [])))) (spell_items l.items)
    (start_whole l.name l.attributes l.gap h.1 h.2 h.3) (items_whole (suc k) l.items h.4))

levels_whole : (ls : List Level) → AreLevels ls → IsWhole (levels ls)
levels_whole [] h = whole_none
levels_whole (l ∷ ls) h = whole_join (levels ls) (opened l) (levels_whole ls h.1) (opened_whole (length ls) l h.0)

tag_open : (bs : List ℕ) (m : Scan) → Leads in_tag bs m → IsOpen (60 ∷ bs)
tag_open bs m h = (m, h)

-- in a start tag
opening_some : (o : Opening) (more : List ℕ) (m : Scan) → (length o.outer < 200) → IsName o.name → AreAttributes [] o.attributes → AreLevels o.outer
    → Leads in_tag more m → 0 < counted outside 0 (in_tag_bytes o more)
opening_some o more m d n a l h =
    behind_some (levels o.outer) (60 ∷ (o.name ++ (spell_attributes o.attributes ++ more))) (levels_whole o.outer l)
    (tag_open _ m (begun_tag o.name [] o.attributes more m n a h))

key_lead : (g a more : List ℕ) (m : Scan) → IsWideGap g → IsAttributeName a → Leads in_tag more m → Leads in_tag (g ++ (a ++ more)) m
key_lead g a more m w n h = leads_then in_tag g in_tag _ m (gap_leads g (wide_each g w)) (leads_then in_tag a in_tag more m (keys_lead a (key_each a n)) h)

value_lead : (g a lg rg : List ℕ) (q : ℕ) (ps : List Piece) (more : List ℕ) (m : Scan) → IsWideGap g → IsAttributeName a → IsGap lg → IsGap rg
    → is_quote q ≡ true → ArePieces (in_value q) ps → Leads (inside_value q) more m
    → Leads in_tag (g ++ (a ++ (lg ++ (61 ∷ (rg ++ ((q ∷ spell_pieces ps) ++ more)))))) m
value_lead g a lg rg q ps more m w n l r e p h =
    key_lead g a _ m w n
    (leads_then in_tag lg in_tag _ m (gap_leads lg l)
    (equals_leads _ m
    (leads_then in_tag rg in_tag _ m (gap_leads rg r)
    (leads_then in_tag (q ∷ spell_pieces ps) (inside_value q) more m (value_leads q ps e p) h))))

-- escapes in part
letters_front : (xs ys zs : List ℕ) (p : ℕ → Bool) → xs ++ ys ≡ zs → Each p zs → Each p xs
letters_front [] ys zs p e h = tt
letters_front (x ∷ xs) ys [] p e h = absurd cc
letters_front (x ∷ xs) ys (z ∷ zs) p e h =
    let P : ℕ → Type 0 = λ b. p b ≡ true in
    (subst P (sym (first_same x z _ _ e)) h.0, letters_front xs ys zs p (others_same x z _ _ e) h.1)
  where
    first_same : (x z : ℕ) (us vs : List ℕ) → x ∷ us ≡ z ∷ vs → x ≡ z
    first_same x z us vs e = cc

    others_same : (x z : ℕ) (us vs : List ℕ) → x ∷ us ≡ z ∷ vs → us ≡ vs
    others_same x z us vs e = cc

letters_named : (n : EscapeName) → Each is_name_byte (letters_of n)
letters_named Amp = (refl, (refl, (refl, tt)))
letters_named Lt = (refl, (refl, tt))
letters_named Gt = (refl, (refl, tt))
letters_named Quot = (refl, (refl, (refl, (refl, tt))))
letters_named Apos = (refl, (refl, (refl, (refl, tt))))
letters_named Nbsp = (refl, (refl, (refl, (refl, tt))))

first_between : (low high : ℕ) → low ≤ high → between low high low ≡ true
first_between low high h = grind (arith, nat_tests)

-- some bytes that end a character
rest_of_character : (n low high : ℕ) → low ≤ high → (bs : List ℕ) × IsFollow low high n bs × (0 < length bs)
rest_of_character zero low high h = (low ∷ [], (first_between low high h, refl), omega arith)
rest_of_character (suc n) low high h = let r = rest_of_character n 128 191 (lit≤ tt) in (low ∷ r.0, (first_between low high h, r.1), omega arith)

wide_front : (low high n : ℕ) (got bs : List ℕ) → IsFollow low high n (got ++ bs) → 0 < length bs → (m : Scan) × Leads (in_wide n) got m
wide_front low high n [] bs h lt = (in_wide n, (refl, tt))
wide_front low high zero (c ∷ cs) bs h lt = absurd (omega (arith, ap length h.1, length-append cs bs))
wide_front low high (suc n) (c ∷ cs) bs h lt = let r = wide_front 128 191 n cs bs h.1 lt in (r.0, (tt, r.1))

wide_lead : (o : Option Follow) (got bs : List ℕ) → Follows o (got ++ bs) → 0 < length bs → (m : Scan) × Leads (wide_of o) got m
wide_lead None got bs h lt = absurd h
wide_lead (Some f) got bs h lt = wide_front f.low f.high f.more got bs h lt

name_not_end : (b : ℕ) → is_name_byte b ≡ true → (b == 59) ≡ false
name_not_end b e = grind (arith, nat_tests)

name_in_escape : (b : ℕ) → is_name_byte b ≡ true → scan in_escape b ≡ in_escape
name_in_escape b e = if_false (b == 59) _ _ (name_not_end b e)

escape_open : (e : Begun) → IsBegunEscape e → IsOpen (escape_bytes e)
escape_open b_ampersand h = (in_escape, (refl, tt))
escape_open b_apart h = (in_escape, (tt, (refl, tt)))
escape_open (b_letters n got left) h =
    (in_escape, each_leads in_escape is_name_byte tt name_in_escape got (letters_front got left (letters_of n) is_name_byte h (letters_named n)))
escape_open b_sharp h = (in_escape, (tt, (refl, tt)))
escape_open (b_digits r ds) h = (in_escape, number_leads r ds h.0)
escape_open (b_wide b got low high n) h =
    let r = rest_of_character n low high h.1 in
    let f = h.0 r.0 r.1 in
    let w = wide_lead (follow b) got r.0 f r.2 in
    let P : Scan → Type 0 = λ m. Leads m got w.0 in
    (w.0, subst P (sym (scan_high b (high_follow b (got ++ r.0) (nat_lt b 128) refl f))) w.1)

and_other : (q : ℕ) → is_quote q ≡ true → not (38 == q) ≡ true
and_other q e = grind (arith, nat_tests)

sharp_other : (q : ℕ) → is_quote q ≡ true → not (35 == q) ≡ true
sharp_other q e = grind (arith, nat_tests)

name_other : (q b : ℕ) → is_quote q ≡ true → is_name_byte b ≡ true → not (b == q) ≡ true
name_other q b e f = grind (arith, nat_tests)

high_other : (q b : ℕ) → is_quote q ≡ true → not (nat_lt b 128) ≡ true → not (b == q) ≡ true
high_other q b e f = grind (arith, nat_tests)

each_other : (p r : ℕ → Bool) → ((b : ℕ) → p b ≡ true → r b ≡ true) → (bs : List ℕ) → Each p bs → Each r bs
each_other p r f [] h = tt
each_other p r f (b ∷ bs) h = (f b h.0, each_other p r f bs h.1)

escape_others : (q : ℕ) (e : Begun) → is_quote q ≡ true → IsBegunEscape e → Others q (escape_bytes e)
escape_others q b_ampersand i h = (and_other q i, tt)
escape_others q b_apart i h = (and_other q i, (name_other q 97 i refl, tt))
escape_others q (b_letters n got left) i h = (
  and_other q i,
  each_other is_name_byte (λ b. not (b == q)) (λ b. name_other q b i) got
      (letters_front got left (letters_of n) is_name_byte h (letters_named n)),
)
escape_others q b_sharp i h = (and_other q i, (sharp_other q i, tt))
escape_others q (b_digits r ds) i h = digits_others q r ds i h.0
escape_others q (b_wide b got low high n) i h =
    let r = rest_of_character n low high h.1 in
    let f = h.0 r.0 r.1 in
    let l : nat_lt b 128 ≡ false = high_follow b (got ++ r.0) (nat_lt b 128) refl f in (
      high_other q b i (ap not l),
      each_other (λ c. not (nat_lt c 128)) (λ c. not (c == q)) (λ c. high_other q c i) got
          (letters_front got r.0 (got ++ r.0) (λ c. not (nat_lt c 128)) refl (follows_high (follow b) (got ++ r.0) (follow_low b) f)),
    )

-- a document in part
value_bytes : (o : Opening) (g a lg rg : List ℕ) (q : ℕ) (ps : List Piece) (more : List ℕ)
    → in_tag_bytes o (g ++ (a ++ (lg ++ (61 ∷ (rg ++ ((q ∷ spell_pieces ps) ++ more))))))
    ≡ in_tag_bytes o (g ++ (a ++ (lg ++ (61 ∷ (rg ++ (q ∷ spell_pieces ps)))))) ++ more
value_bytes o g a lg rg q ps more = simp append_assoc

some_as : (xs ys : List ℕ) → xs ≡ ys → 0 < counted outside 0 xs → 0 < counted outside 0 ys
some_as xs ys e h = let P : List ℕ → Type 0 = λ zs. 0 < counted outside 0 zs in subst P e h

value_some : (o : Opening) (g a lg rg : List ℕ) (q : ℕ) (ps : List Piece) (more : List ℕ) → Sound (p_value o g a lg rg q ps) → Others q more
    → 0 < counted outside 0 (written (p_value o g a lg rg q ps) ++ more)
value_some o g a lg rg q ps more h k =
    some_as _ _ (value_bytes o g a lg rg q ps more)
    (opening_some o _ (inside_value q) h.0.0 h.0.1 h.0.2 h.0.3
    (value_lead g a lg rg q ps more (inside_value q) h.1 h.2 h.6 h.7 h.5 h.4 (others_lead q more k)))

end_some : (l : Level) (ls : List Level) (more : List ℕ) → IsLevel (length ls) l → AreLevels ls → Leads in_tag more in_tag
    → 0 < counted outside 0 (in_end l ls more)
end_some l ls more i a h =
    behind_some (levels ls ++ opened l) (60 ∷ 47 ∷ more) (whole_join (levels ls) (opened l) (levels_whole ls a) (opened_whole (length ls) l i))
    (in_tag, (tt, h))

partial_tells : (p : Partial) → Sound p → TellsOf (seen p) (written p)
partial_tells (p_text l ls) h = whole_zero (levels ls ++ opened l) (whole_join (levels ls) (opened l) (levels_whole ls h.1) (opened_whole (length ls) l h.0))
partial_tells (p_less ls) h = behind_some (levels ls) (60 ∷ []) (levels_whole ls h) (in_tag, (refl, tt))
partial_tells (p_naming ls n) h = behind_some (levels ls) (60 ∷ n) (levels_whole ls h.2) (in_tag, names_lead n (name_each n h.1))
partial_tells (p_gap o g) h = opening_some o g in_tag h.0.0 h.0.1 h.0.2 h.0.3 (gap_leads g (wide_each g h.1))
partial_tells (p_attribute o g a) h =
    opening_some o (g ++ a) in_tag h.0.0 h.0.1 h.0.2 h.0.3 (leads_then in_tag g in_tag a in_tag (gap_leads g (wide_each g h.1)) (keys_lead a (key_each a h.2)))
partial_tells (p_named o g a lg) h = opening_some o _ in_tag h.0.0 h.0.1 h.0.2 h.0.3 (key_lead g a lg in_tag h.1 h.2 (gap_leads lg h.4))
partial_tells (p_equals o g a lg rg) h =
    opening_some o _ in_tag h.0.0 h.0.1 h.0.2 h.0.3
    (key_lead g a _ in_tag h.1 h.2 (leads_then in_tag lg in_tag _ in_tag (gap_leads lg h.4) (equals_leads rg in_tag (gap_leads rg h.5))))
partial_tells (p_value o g a lg rg q ps) h = some_as _ _ (append-nil (written (p_value o g a lg rg q ps))) (value_some o g a lg rg q ps [] h tt)
partial_tells (p_slashed o g) h =
    opening_some o (g ++ 47 ∷ []) in_tag h.0.0 h.0.1 h.0.2 h.0.3 (leads_then in_tag g in_tag (47 ∷ []) in_tag (gap_leads g h.1) (tt, (refl, tt)))
partial_tells (p_valued o) h = opening_some o [] in_tag h.0 h.1 h.2 h.3 (refl, tt)
partial_tells (p_closing l ls got left) h =
    end_some l ls got h.0 h.1 (names_lead got (letters_front got left l.name is_name_byte h.2 (name_each l.name h.0.1)))
partial_tells (p_closed l ls g) h =
    end_some l ls (l.name ++ g) h.0 h.1 (leads_then in_tag l.name in_tag g in_tag (names_lead l.name (name_each l.name h.0.1)) (gap_leads g h.2))
partial_tells (p_done e g) h = whole_zero (spell e ++ g) (whole_join (spell e) g (element_whole 0 e h.0) (gap_whole g h.1))
partial_tells (p_escaping (p_text l ls) e) h =
    behind_some (levels ls ++ opened l) (escape_bytes e) (whole_join (levels ls) (opened l) (levels_whole ls h.0.1) (opened_whole (length ls) l h.0.0))
    (escape_open e h.2)
partial_tells (p_escaping (p_value o g a lg rg q ps) e) h = value_some o g a lg rg q ps (escape_bytes e) h.0 (escape_others q e h.0.5 h.2)
partial_tells (p_escaping (p_slashed o gs) e) h = absurd h.1
partial_tells (p_escaping (p_less ls) e) h = absurd h.1
partial_tells (p_escaping (p_naming ls n) e) h = absurd h.1
partial_tells (p_escaping (p_gap o gs) e) h = absurd h.1
partial_tells (p_escaping (p_attribute o gs a) e) h = absurd h.1
partial_tells (p_escaping (p_named o gs a lg) e) h = absurd h.1
partial_tells (p_escaping (p_equals o gs a lg rg) e) h = absurd h.1
partial_tells (p_escaping (p_valued o) e) h = absurd h.1
partial_tells (p_escaping (p_closing l ls got left) e) h = absurd h.1
partial_tells (p_escaping (p_closed l ls gs) e) h = absurd h.1
partial_tells (p_escaping (p_done d gs) e) h = absurd h.1
partial_tells (p_escaping (p_escaping p d) e) h = absurd h.1

tells_behind : (s : State) (front bytes : List ℕ) → IsWhole front → TellsOf s bytes → TellsOf s (front ++ bytes)
tells_behind s front bytes w h = let P : ℕ → Type 0 = Tells (is_between s) in subst P (sym (whole_counted front bytes w)) h

-- what is left of a doctype is less than a whole one
abbrev pub IsShort : State → Type 0
IsShort (doctype cs) = length cs < 15
IsShort s = Unit {0}

word_got : (got : List ℕ) → map to_ascii_lowercase got ++ [] ≡ doctype_word → IsWhole got
word_got got e = whole_one (declaration got) (sym (append-nil (map to_ascii_lowercase got)) ∙ e)

word_some : (got left : List ℕ) → map to_ascii_lowercase got ++ left ≡ doctype_word → 0 < length left → length left < 15 → IsOpen got
word_some [] left e lt short = absurd (omega (arith, ap length e))
word_some (b ∷ bs) left e lt short =
    let first : b ≡ 60 = small_less b (first_eq _ _ _ _ e) in
    let P : ℕ → Type 0 = λ c. IsOpen (c ∷ bs) in
    subst P (sym first) (in_tag, word_leads bs (codes "!doctype html") left (others_eq _ _ _ _ e) middle lt)

ahead_tells : (a : Ahead) → IsAhead a → IsShort (state_of a) → TellsOf (state_of a) (bytes_of a)
ahead_tells (a_lead l) h s = whole_zero l (gap_whole l h)
ahead_tells (a_first l) h s = behind_some l (60 ∷ []) (gap_whole l h) (in_tag, (refl, tt))
ahead_tells (a_word l got []) h s = whole_zero (l ++ got) (whole_join l got (gap_whole l h.0) (word_got got h.1.0))
ahead_tells (a_word l got (c ∷ cs)) h s = behind_some l got (gap_whole l h.0) (word_some got (c ∷ cs) h.1.0 (omega arith) s)
ahead_tells (a_gap l d g) h s = whole_zero (l ++ (d ++ g)) (head_whole (record { lead = l; doctype = d; gap = g }) h)

comes_tells : (bytes : List ℕ) (s : State) → IsShort s → InHead bytes s ⊎ Behind bytes s → TellsOf s bytes
comes_tells bytes s i (inl r) =
    let P : State → Type 0 = λ t. IsShort t → TellsOf t bytes in
    let Q : List ℕ → Type 0 = λ w. TellsOf (state_of r.0) w in
    subst P r.2 (λ k. subst Q r.3 (ahead_tells r.0 r.1 k)) i
comes_tells bytes s i (inr r) =
    let P : State → Type 0 = λ t. TellsOf t bytes in
    let Q : List ℕ → Type 0 = λ w. TellsOf (seen r.2) w in
    subst P r.4 (subst Q r.5 (tells_behind (seen r.2) (spell_head r.0) (written r.2) (head_whole r.0 r.1) (partial_tells r.2 r.3)))

pub tells : (bytes : List ℕ) (s : State) → run start bytes ≡ Ok s → IsShort s → TellsOf s bytes
tells bytes s e i = comes_tells bytes s i (reached bytes (Ok s) e)

-- how many are held after one byte more
abbrev pub next_held : Bool → ℕ → ℕ
next_held t k = if t then 0 else k

next_is : (t : Bool) (k j : ℕ) → Tells t j → OneMore k j → j ≡ next_held t (k + 1)
next_is true k j z m = z
next_is false k j z (over e) = absurd (omega (arith, z, e))
next_is false k j z (grown e) = omega (arith, e)

pub push_kept : (bytes : List ℕ) (b k : ℕ) (s t : State) → run start bytes ≡ Ok s → mended b (step s b) ≡ Ok t → IsShort t → IsKept bytes k
    → IsKept (bytes ++ b ∷ []) (next_held (is_between t) (k + 1))
push_kept bytes b k s t e f i h =
    let w : List ℕ = bytes ++ b ∷ [] in
    let r : run start w ≡ Ok t = run_push bytes b start s e ∙ f in
    let j = kept_of_front w (front_of w t r) in
    let c = kept_counted w j.0 j.1 in
    let q : OneMore k (counted outside 0 w) =
    (let P : ℕ → Type 0 = λ n. OneMore n (counted outside 0 w) in subst P (sym (kept_counted bytes k h)) (push_counted outside 0 bytes b)) in
    let P : ℕ → Type 0 = IsKept w in
    subst P (c ∙ next_is (is_between t) k (counted outside 0 w) (tells w t r i) q) j.1
