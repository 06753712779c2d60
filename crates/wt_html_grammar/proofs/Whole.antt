-- A document that is written in part, with its head; so the machine goes on exactly while the bytes
-- begin a well-formed input.
use Rattle.std.proofs.Common.{◌≡◌, ℕ, ◌<◌, Bool, true, Result, Ok, Err, List, [], ◌∷◌, ◌++◌, length, map, refl, sym, ap, ◌∙◌, subst, append_assoc, arith, codes, inl, inr}
use Rattle.std.specs.Prelude.{◌==◌, ◌⊎◌}
use Rattle.std.specs.Char.{to_ascii_lowercase}
use Rattle.std.proofs.lemmas.List.{append-nil}
use Rattle.std.proofs.lemmas.Bool.{eqb-true}
use Rattle.wt_html_grammar.specs.declared.why.HtmlWhy.{HtmlWhy}
use Rattle.wt_html_grammar.specs.Signs.{is_lower, is_space, begins_character, number_from, Each, IsGap}
use Rattle.wt_html_grammar.specs.declared.names.Radix.{Radix}
use Rattle.wt_html_grammar.specs.Grammar.{Element, spell, IsElement, Head, spell_head, MayBeDoctype, IsHead, Well, Front}
use Rattle.wt_html_grammar.specs.Machine.{State, start, first, doctype, inside, in_doctype, mended, step, onward, run}
use Rattle.wt_html_grammar.proofs.Steps.{if_case, run_append}
use Rattle.wt_html_grammar.proofs.Complete.{complete, completes, OkEscape, IsSmall, Viable}
use Rattle.wt_html_grammar.proofs.Reading.{well_read}
use Rattle.wt_html_grammar.proofs.Partial.{Partial, p_less, p_naming, p_text, p_gap, p_attribute, p_named, p_equals, p_value, p_slashed, p_valued, p_closing, p_closed, p_done, p_escaping, Begun, b_ampersand, b_apart, b_letters, b_sharp, b_digits, b_wide, escape_of, IsBegunEscape, Sound, seen, written, Reached, advance}

-- a head in part
pub data Ahead : Type 0 where
  a_lead : List ℕ → Ahead
  a_first : List ℕ → Ahead
  a_word : List ℕ → List ℕ → List ℕ → Ahead  -- the lead, what of the word stands there, and what is left
  a_gap : List ℕ → List ℕ → List ℕ → Ahead

abbrev pub state_of : Ahead → State
state_of (a_lead l) = start
state_of (a_first l) = first
state_of (a_word l got left) = doctype left
state_of (a_gap l d g) = doctype []

abbrev pub bytes_of : Ahead → List ℕ
bytes_of (a_lead l) = l
bytes_of (a_first l) = l ++ 60 ∷ []
bytes_of (a_word l got left) = l ++ got
bytes_of (a_gap l d g) = l ++ (d ++ g)

abbrev pub IsWord : List ℕ → List ℕ → Type 0
IsWord got left = (map to_ascii_lowercase got ++ left ≡ codes "<!doctype html>") × IsSmall left

abbrev pub IsAhead : Ahead → Type 0
IsAhead (a_lead l) = IsGap l
IsAhead (a_first l) = IsGap l
IsAhead (a_word l got left) = IsGap l × IsWord got left
IsAhead (a_gap l d g) = IsHead (record { lead = l; doctype = d; gap = g })

abbrev pub InHead : List ℕ → State → Type 0
InHead w s = (a : Ahead) × IsAhead a × (state_of a ≡ s) × (bytes_of a ≡ w)

abbrev pub Behind : List ℕ → State → Type 0
Behind w s = (h : Head) × IsHead h × (p : Partial) × Sound p × (seen p ≡ s) × (spell_head h ++ written p ≡ w)

abbrev pub Comes : List ℕ → Result State HtmlWhy → Type 0
Comes w (Err why) = Unit {0}
Comes w (Ok s) = InHead w s ⊎ Behind w s

along : (a b : List ℕ) (o : Result State HtmlWhy) → a ≡ b → Comes a o → Comes b o
along a b o e h = let P : List ℕ → Type 0 = λ w. Comes w o in subst P e h

each_push : (p : ℕ → Bool) (bs : List ℕ) (b : ℕ) → Each p bs → p b ≡ true → Each p (bs ++ b ∷ [])
each_push p [] b h e = (e, tt)
each_push p (c ∷ cs) b h e = (h.0, each_push p cs b h.1 e)

map_push : (bs : List ℕ) (b : ℕ) → map to_ascii_lowercase (bs ++ b ∷ []) ≡ map to_ascii_lowercase bs ++ to_ascii_lowercase b ∷ []
map_push [] b = refl
map_push (c ∷ cs) b = ap (λ x. to_ascii_lowercase c ∷ x) (map_push cs b)

-- the word goes on
word_push : (got cs : List ℕ) (b c : ℕ) → IsWord got (c ∷ cs) → to_ascii_lowercase b ≡ c → IsWord (got ++ b ∷ []) cs
word_push got cs b c h e = (
  ap (λ x. x ++ cs) (map_push got b) ∙ append_assoc (map to_ascii_lowercase got) (to_ascii_lowercase b ∷ []) cs
      ∙ ap (λ x. map to_ascii_lowercase got ++ (x ∷ cs)) e ∙ h.0,
  h.1.1,
)

-- the word is whole
word_done : (got : List ℕ) → IsWord got [] → MayBeDoctype got
word_done [] h = tt
word_done (b ∷ bs) h = sym (append-nil (map to_ascii_lowercase (b ∷ bs))) ∙ h.0

gap_advance : (l d g : List ℕ) (b : ℕ) → IsHead (record { lead = l; doctype = d; gap = g }) → Comes ((l ++ (d ++ g)) ++ b ∷ []) (in_doctype [] b)
gap_advance l d g b h =
    let w : List ℕ = (l ++ (d ++ g)) ++ b ∷ [] in
    if_case (Comes w) (is_space b) _ _
    (λ e. inl (a_gap l d (g ++ b ∷ []), (h.0, h.1, each_push is_space g b h.2 e), refl, simp append_assoc))
    (λ _. if_case (Comes w) (b == 60) _ _
    (λ e. inr (record { lead = l; doctype = d; gap = g }, h, p_less [], tt, refl, ap (λ c. (l ++ (d ++ g)) ++ c ∷ []) (sym (eqb-true b 60 e))))
    (λ _. tt))

first_advance : (l : List ℕ) (b : ℕ) → IsGap l → Comes ((l ++ 60 ∷ []) ++ b ∷ []) (step first b)
first_advance l b h =
    let w : List ℕ = (l ++ 60 ∷ []) ++ b ∷ [] in
    if_case (Comes w) (is_lower b) _ _
    (λ e. inr (record { lead = l; doctype = []; gap = [] }, (h, tt, tt), p_naming [] (b ∷ []), (none_open, (e, tt), tt), refl, simp (append_assoc, append-nil)))
    (λ _. if_case (Comes w) (b == 33) _ _
    (λ e. inl (
      a_word l (60 ∷ 33 ∷ []) (codes "doctype html>"),
      (h, (refl, small)),
      refl,
      ap (λ c. l ++ (60 ∷ c ∷ [])) (sym (eqb-true b 33 e)) ∙ sym (append_assoc l (60 ∷ []) (b ∷ [])),
    ))
    (λ _. tt))
  where
    none_open : 0 < 200
    none_open = omega arith

    small : IsSmall (codes "doctype html>")
    small = (refl, (refl, (refl, (refl, (refl, (refl, (refl, (refl, (refl, (refl, (refl, (refl, (refl, tt)))))))))))))

ahead_advance : (a : Ahead) (b : ℕ) → IsAhead a → Comes (bytes_of a ++ b ∷ []) (step (state_of a) b)
ahead_advance (a_lead l) b h =
    if_case (Comes (l ++ b ∷ [])) (is_space b) _ _
    (λ e. inl (a_lead (l ++ b ∷ []), each_push is_space l b h e, refl, refl))
    (λ _. if_case (Comes (l ++ b ∷ [])) (b == 60) _ _
    (λ e. inl (a_first l, h, refl, ap (λ c. l ++ c ∷ []) (sym (eqb-true b 60 e))))
    (λ _. tt))
ahead_advance (a_first l) b h = first_advance l b h
ahead_advance (a_word l got (c ∷ cs)) b h =
    let w : List ℕ = (l ++ got) ++ b ∷ [] in
    if_case (Comes w) (to_ascii_lowercase b == c) _ _
    (λ e. inl (a_word l (got ++ b ∷ []) cs, (h.0, word_push got cs b c h.1 (eqb-true (to_ascii_lowercase b) c e)), refl, sym (append_assoc l got (b ∷ []))))
    (λ _. tt)
ahead_advance (a_word l got []) b h =
    let same : (l ++ (got ++ [])) ++ b ∷ [] ≡ (l ++ got) ++ b ∷ [] = simp append-nil in
    along _ _ _ same (gap_advance l got [] b (h.0, word_done got h.1, tt))
ahead_advance (a_gap l d g) b h = gap_advance l d g b h

-- a head before it
headed : (h : Head) (w : List ℕ) → IsHead h → (o : Result State HtmlWhy) → Reached w o → Comes (spell_head h ++ w) o
headed h w i (Err why) r = tt
headed h w i (Ok s) r = inr (h, i, r.0, r.1, r.2, ap (λ x. spell_head h ++ x) r.3)

mended_comes : (w : List ℕ) (b : ℕ) (o : Result State HtmlWhy) → Comes w o → Comes w (mended b o)
mended_comes w b (Ok s) h = h
mended_comes w b (Err why) h = if_case (Comes w) (begins_character b) (Err why) _ (λ _. tt) (λ _. tt)

-- one byte more
next : (w : List ℕ) (s : State) (b : ℕ) → InHead w s ⊎ Behind w s → Comes (w ++ b ∷ []) (step s b)
next w s b (inl r) =
    let P : State → Type 0 = λ t. Comes (w ++ b ∷ []) (step t b) in
    subst P r.2 (along _ _ _ (ap (λ x. x ++ b ∷ []) r.3) (ahead_advance r.0 b r.1))
next w s b (inr r) =
    let P : State → Type 0 = λ t. Comes (w ++ b ∷ []) (step t b) in
    let same : spell_head r.0 ++ (written r.2 ++ b ∷ []) ≡ w ++ b ∷ [] =
    sym (append_assoc (spell_head r.0) (written r.2) (b ∷ [])) ∙ ap (λ x. x ++ b ∷ []) r.5 in
    subst P r.4 (along _ _ _ same (headed r.0 _ r.1 _ (advance r.2 b r.3)))

more_read : (w : List ℕ) (b : ℕ) (bs : List ℕ)
    → ((s : State) → InHead (w ++ b ∷ []) s ⊎ Behind (w ++ b ∷ []) s → Comes ((w ++ b ∷ []) ++ bs) (run s bs)) → (o : Result State HtmlWhy)
    → Comes (w ++ b ∷ []) o → Comes (w ++ b ∷ bs) (onward (λ t. run t bs) o)
more_read w b bs h (Err why) r = tt
more_read w b bs h (Ok s) r = along _ _ _ (append_assoc w (b ∷ []) bs) (h s r)

-- all that is read
all_read : (bs w : List ℕ) (s : State) → InHead w s ⊎ Behind w s → Comes (w ++ bs) (run s bs)
all_read [] w s h = along w (w ++ []) (Ok s) (sym (append-nil w)) h
all_read (b ∷ bs) w s h = more_read w b bs (all_read bs (w ++ b ∷ [])) (mended b (step s b)) (mended_comes _ b (step s b) (next w s b h))

pub reached : (bytes : List ℕ) (o : Result State HtmlWhy) → run start bytes ≡ o → Comes bytes o
reached bytes o e = let P : Result State HtmlWhy → Type 0 = λ q. Comes bytes q in subst P e (all_read bytes [] start (inl (a_lead [], tt, refl, refl)))

done : (p : Partial) → Sound p → seen p ≡ inside [] → (e : Element) × (g : List ℕ) × IsElement 0 e × IsGap g × (written p ≡ spell e ++ g)
done (p_done e g) h is = (e, g, h.0, h.1, refl)
done (p_text l ls) h is = absurd cc
done (p_less ls) h is = absurd cc
done (p_naming ls n) h is = absurd cc
done (p_gap o g) h is = absurd cc
done (p_attribute o g a) h is = absurd cc
done (p_named o g a lg) h is = absurd cc
done (p_equals o g a lg rg) h is = absurd cc
done (p_value o g a lg rg q ps) h is = absurd cc
done (p_slashed o g) h is = absurd cc
done (p_valued o) h is = absurd cc
done (p_closing l ls got left) h is = absurd cc
done (p_closed l ls g) h is = absurd cc
done (p_escaping p e) h is = absurd cc

not_done : (a : Ahead) → state_of a ≡ inside [] → ⊥
not_done (a_lead l) is = cc
not_done (a_first l) is = cc
not_done (a_word l got left) is = cc
not_done (a_gap l d g) is = cc

whole : (bytes : List ℕ) → InHead bytes (inside []) ⊎ Behind bytes (inside []) → Well bytes
whole bytes (inl r) = absurd (not_done r.0 r.2)
whole bytes (inr r) =
    let d = done r.2 r.3 r.4 in (
      record { head = r.0; root = d.0; end = d.1 },
      (r.1, d.2, d.3),
      sym r.5 ∙ ap (λ x. spell_head r.0 ++ x) d.4,
    )

pub read_well : (bytes : List ℕ) → run start bytes ≡ Ok (inside []) → Well bytes
read_well bytes e = whole bytes (reached bytes (Ok (inside [])) e)

zero_number : (r : Radix) (ds : List ℕ) → length ds ≡ 0 → number_from r 0 ds ≡ 0
zero_number r [] e = refl
zero_number r (d ∷ ds) e = absurd (omega arith)

ok_escape : (e : Begun) → IsBegunEscape e → OkEscape (escape_of e)
ok_escape b_ampersand h = tt
ok_escape b_apart h = tt
ok_escape (b_letters n got left) h = tt
ok_escape b_sharp h = tt
ok_escape (b_digits r ds) h = (h.1, zero_number r ds)
ok_escape (b_wide b got low high n) h = h.1

viable_partial : (p : Partial) → Sound p → Viable (seen p)
viable_partial (p_escaping p e) h = (ok_escape e h.2, viable_partial p h.0)
viable_partial (p_text l ls) h = tt
viable_partial (p_less ls) h = tt
viable_partial (p_naming ls n) h = tt
viable_partial (p_gap o g) h = tt
viable_partial (p_attribute o g a) h = tt
viable_partial (p_named o g a lg) h = tt
viable_partial (p_equals o g a lg rg) h = tt
viable_partial (p_value o g a lg rg q ps) h = tt
viable_partial (p_slashed o g) h = tt
viable_partial (p_valued o) h = tt
viable_partial (p_closing l ls got left) h = tt
viable_partial (p_closed l ls g) h = tt
viable_partial (p_done e g) h = tt

viable_ahead : (a : Ahead) → IsAhead a → Viable (state_of a)
viable_ahead (a_lead l) h = tt
viable_ahead (a_first l) h = tt
viable_ahead (a_word l got left) h = h.1.1
viable_ahead (a_gap l d g) h = tt

viable_of : (w : List ℕ) (s : State) → InHead w s ⊎ Behind w s → Viable s
viable_of w s (inl r) = subst Viable r.2 (viable_ahead r.0 r.1)
viable_of w s (inr r) = subst Viable r.4 (viable_partial r.2 r.3)

pub front_of : (bytes : List ℕ) (s : State) → run start bytes ≡ Ok s → Front bytes
front_of bytes s e = (
  complete s,
  read_well (bytes ++ complete s)
      (run_append start bytes (complete s) ∙ ap (onward (λ t. run t (complete s))) e ∙ completes s (viable_of bytes s (reached bytes (Ok s) e))),
)

no_front : (o : Result State HtmlWhy) (f : State → Result State HtmlWhy) (w : HtmlWhy) (s : State) → o ≡ Err w → onward f o ≡ Ok s → ⊥
no_front (Ok t) f w s e h = cc
no_front (Err v) f w s e h = cc

-- where it stopped, no longer front begins
pub stopped : (bytes more : List ℕ) (w : HtmlWhy) → run start bytes ≡ Err w → Front (bytes ++ more) → ⊥
stopped bytes more w e f =
    let r = well_read ((bytes ++ more) ++ f.0) f.1 in
    let a = run_append start (bytes ++ more) f.0 in
    let P : Result State HtmlWhy → Type 0 = λ o. onward (λ t. run t f.0) o ≡ Ok (inside []) in
    let g : P (onward (λ t. run t more) (run start bytes)) = subst P (run_append start bytes more) (sym a ∙ r) in
    no_front (onward (λ t. run t more) (run start bytes)) (λ t. run t f.0) w (inside []) (ap (onward (λ t. run t more)) e) g
