-- What is written up to a place determines the machine's state there.
use Rattle.std.proofs.Common.{◌≡◌, ℕ, suc, ◌+◌, ◌*◌, ◌<◌, false, Result, Ok, Err, List, [], ◌∷◌, ◌++◌, length, refl, sym, ap, ◌∙◌, subst, append_assoc, arith, inl, inr}
use Rattle.std.specs.Prelude.{◌==◌, ◌⊎◌, not}
use Rattle.std.proofs.lemmas.List.{append-nil}
use Rattle.std.proofs.lemmas.Bool.{both_ways, not-true}
use Rattle.wt_html_grammar.specs.declared.names.Radix.{Radix}
use Rattle.wt_html_grammar.specs.declared.names.Radix.TheVariants.{Decimal}
use Rattle.wt_html_grammar.specs.declared.why.HtmlWhy.{HtmlWhy}
use Rattle.wt_html_grammar.specs.Signs.{is_void, is_quote, begins_character, is_among, is_digit_of, digit_value, base_of, in_value, Each, IsAttributeName, IsWideGap}
use Rattle.wt_html_grammar.specs.Grammar.{Attribute, IsAttribute, spell_attributes, AreAttributes, spell_pieces, spell_items, AreItems, Head, spell_head, IsHead}
use Rattle.wt_html_grammar.specs.Machine.{State, start, inside, less, naming, gap, attribute, equals, value, valued, closing, escaping, Escape, ampersand, apart, letters, sharp, digits, wide, EscapeStep, stop, on, ended, is_begun, in_digits, in_escape, turned, why_of, Tag, with_seen, mended, step, onward, run}
use Rattle.wt_html_grammar.proofs.Steps.{if_true, if_false, if_case, run_step}
use Rattle.wt_html_grammar.proofs.Complete.{eq_self, quote_ends}
use Rattle.wt_html_grammar.proofs.Reading.{inner_pieces, inner_attributes, pieces_is, attributes_is, items_is, pieces_run, takes_value, Opens, opens_naming, wide_run, open_run, attribute_start, left_run, right_run, attributes_run, Names, names_less, start_run, items_run, head_run}
use Rattle.wt_html_reasons.specs.Written.{Level, IsLevel, spell_levels, AreLevels, Within, InContents, names_of, InStartTag, spell_unended, InValue}
use Rattle.wt_html_reasons.specs.Reasons.{InEscape}

-- the names of open elements
abbrev pub names : List Level → List (List ℕ)
names [] = []
names (l ∷ outer) = l.name ∷ names outer

pub as_many_names : (ls : List Level) → length (names ls) ≡ length ls
as_many_names [] = refl
as_many_names (l ∷ ls) = ap suc (as_many_names ls)

-- behind the < of an element within these
abbrev Begun : Head → List Level → List ℕ → Type 0
Begun h ls rest = (s : State) × Names (names ls) s × (run start ((spell_head h ++ spell_levels ls) ++ (60 ∷ rest)) ≡ run s rest)

inside_from : (h : Head) (l : Level) (ls : List Level) → IsLevel (length ls) l → ((rest : List ℕ) → Begun h ls rest) → (rest : List ℕ)
    → run start ((spell_head h ++ spell_levels (l ∷ ls)) ++ rest) ≡ run (inside (l.name ∷ names ls)) rest
inside_from h l ls i begun rest =
    let after : List ℕ = spell_items l.contents ++ rest in
    let tail : List ℕ = l.gap ++ (62 ∷ after) in
    let same : (spell_head h ++ spell_levels (l ∷ ls)) ++ rest ≡ (spell_head h ++ spell_levels ls)
    ++ (60 ∷ (l.name ++ (spell_attributes l.attributes ++ tail))) = simp append_assoc in
    let b = begun (l.name ++ (spell_attributes l.attributes ++ tail)) in
    let t : Tag = record { outer = names ls; name = l.name; seen = [] } in
    let P : ℕ → Type 0 = λ k. AreItems (suc k) l.contents in
    ap (run start) same ∙ b.2
    ∙ start_run l.name (names ls) b.0 b.1 (spell_attributes l.attributes ++ tail) i.1
    ∙ ap (run (naming (names ls) l.name)) (attributes_is l.attributes tail)
    ∙ attributes_run l.attributes t (naming (names ls) l.name) (opens_naming (names ls) l.name) tail i.2 (run (inside (l.name ∷ names ls)) after)
    (λ u r o e f. open_run l.gap u r o after i.3
    ∙ ap (λ m. run (inside m) after) (if_false (is_void u.name) u.outer (u.name ∷ u.outer) (ap is_void e ∙ i.5)
    ∙ ap (λ m. m ∷ u.outer) e ∙ ap (λ m. l.name ∷ m) f))
    ∙ ap (run (inside (l.name ∷ names ls))) (items_is l.contents rest)
    ∙ items_run l.contents l.name (names ls) rest (subst P (sym (as_many_names ls)) i.4)

begins : (h : Head) (ls : List Level) → IsHead h → AreLevels ls → length ls < 200 → (rest : List ℕ) → Begun h ls rest
begins h [] i a lt rest =
    let r = head_run h.lead h.doctype h.gap rest i.0 i.1 i.2 in
    (r.0, r.1, ap (λ x. run start (x ++ (60 ∷ rest))) (append-nil (spell_head h)) ∙ r.2)
begins h (l ∷ ls) i a lt rest = (
  less (l.name ∷ names ls),
  names_less (l.name ∷ names ls) (omega (arith, as_many_names ls)),
  inside_from h l ls a.0 (begins h ls i a.1 (omega arith)) (60 ∷ rest),
)

-- in the contents of an element
pub contents_run : (l : Level) (ls : List Level) (bytes : List ℕ) → Within (l ∷ ls) bytes → (rest : List ℕ)
    → run start (bytes ++ rest) ≡ run (inside (l.name ∷ names ls)) rest
contents_run l ls bytes w rest =
    let k : length ls < 200 = w.0.0.0 in
    ap (λ x. run start (x ++ rest)) w.1.2 ∙ inside_from w.1.0 l ls w.0.0 (begins w.1.0 ls w.1.1 w.0.1 k) rest

pub deep_at : (ls : List Level) (outside : List ℕ) → Within ls outside → length ls ≡ 200 → run start (outside ++ 60 ∷ []) ≡ Ok (less (names ls))
deep_at [] outside w e = absurd (omega arith)
deep_at (l ∷ ls) outside w e = contents_run l ls outside w (60 ∷ [])

closing_part : (got left : List ℕ) (ns : List (List ℕ)) (rest : List ℕ) → run (closing (got ++ left) ns) (got ++ rest) ≡ run (closing left ns) rest
closing_part [] left ns rest = refl
closing_part (c ∷ cs) left ns rest =
    run_step (closing (c ∷ (cs ++ left)) ns) (closing (cs ++ left) ns) c (cs ++ rest) (if_true (c == c) _ _ (eq_self c)) ∙ closing_part cs left ns rest

-- in the name of an end tag
pub closing_at : (l : Level) (ls : List Level) (outside got left : List ℕ) → Within (l ∷ ls) outside → got ++ left ≡ l.name
    → run start (outside ++ (60 ∷ 47 ∷ got)) ≡ Ok (closing left (names ls))
closing_at l ls outside got left w e =
    contents_run l ls outside w (60 ∷ 47 ∷ got)
    ∙ ap (λ n. run (closing n (names ls)) got) (sym e)
    ∙ ap (run (closing (got ++ left) (names ls))) (sym (append-nil got))
    ∙ closing_part got left (names ls) []

-- an attribute up to the end of its value
unended_run : (a : Attribute) (t : Tag) (s : State) → Opens t s → IsAttribute a → is_among a.name t.seen ≡ false → (rest : List ℕ)
    → run s (a.gap ++ (a.name ++ (a.left ++ (61 ∷ (a.right ++ (a.quote ∷ inner_pieces a.value rest)))))) ≡ run (value (with_seen t a.name) a.quote) rest
unended_run a t s o i n rest =
    let u : Tag = with_seen t a.name in
    wide_run a.gap t s o _ i.0
    ∙ attribute_start a.name t _ i.1
    ∙ left_run a.left t a.name n _ i.4
    ∙ right_run a.right u (a.quote ∷ inner_pieces a.value rest) i.5
    ∙ run_step (equals u) (value u a.quote) a.quote (inner_pieces a.value rest) (if_true (is_quote a.quote) _ _ i.3)
    ∙ pieces_run (in_value a.quote) (value u a.quote) (takes_value u a.quote i.3) a.value rest i.2

-- a state in a start tag behind attributes with these names
abbrev InTag : List (List ℕ) → State → Type 0
InTag ns s = (t : Tag) × Opens t s × (t.seen ≡ ns)

abbrev Leads : State → List Attribute → List (List ℕ) → Type 0
Leads s xs ns = (r : State) × InTag ns r × ((rest : List ℕ) → run s (inner_attributes xs rest) ≡ run r rest)

attributes_to : (xs : List Attribute) (t : Tag) (s : State) → Opens t s → AreAttributes t.seen xs → Leads s xs (t.seen ++ names_of xs)
attributes_to [] t s o h = (s, (t, o, sym (append-nil t.seen)), λ rest. refl)
attributes_to (a ∷ others) t s o h =
    let u : Tag = with_seen t a.name in
    let r : Leads (valued u) others (u.seen ++ names_of others) = attributes_to others u (valued u) (λ b e. refl) h.2 in (
      r.0,
      (r.1.0, r.1.1, r.1.2 ∙ append_assoc t.seen (a.name ∷ []) (names_of others)),
      λ rest.
          unended_run a t s o h.0 h.1 (a.quote ∷ inner_attributes others rest)
          ∙ run_step (value u a.quote) (valued u) a.quote (inner_attributes others rest) (quote_ends u a.quote)
          ∙ r.2 rest,
    )

-- behind a start tag's attributes
abbrev Behind : List Attribute → List ℕ → Type 0
Behind xs bytes = (s : State) × InTag (names_of xs) s × ((rest : List ℕ) → run start (bytes ++ rest) ≡ run s rest)

tag_at : (xs : List Attribute) (bytes : List ℕ) → InStartTag xs bytes → Behind xs bytes
tag_at xs bytes h =
    let w : Within h.0 h.1 = h.3 in
    let ns : List (List ℕ) = names h.0 in
    let n : List ℕ = h.2 in
    let t : Tag = record { outer = ns; name = n; seen = [] } in
    let r : Leads (naming ns n) xs (names_of xs) = attributes_to xs t (naming ns n) (opens_naming ns n) h.6 in (
      r.0,
      r.1,
      λ rest. (let b = begins w.1.0 h.0 w.1.1 w.0 h.4 (n ++ (spell_attributes xs ++ rest)) in
          let same : (h.1 ++ (60 ∷ (n ++ spell_attributes xs))) ++ rest ≡ h.1 ++ (60 ∷ (n ++ (spell_attributes xs ++ rest))) = simp append_assoc in
          ap (λ x. run start (x ++ rest)) h.7
          ∙ ap (run start) same
          ∙ ap (λ x. run start (x ++ (60 ∷ (n ++ (spell_attributes xs ++ rest))))) w.1.2
          ∙ b.2
          ∙ start_run n ns b.0 b.1 (spell_attributes xs ++ rest) h.5
          ∙ ap (run (naming ns n)) (attributes_is xs rest)
          ∙ r.2 rest),
    )

-- behind the name of an attribute
pub attribute_at : (xs : List Attribute) (bytes g a : List ℕ) → InStartTag xs bytes → IsWideGap g → IsAttributeName a
    → (t : Tag) × (t.seen ≡ names_of xs) × (run start (bytes ++ (g ++ a)) ≡ Ok (attribute t a))
attribute_at xs bytes g a h hg ha =
    let b : Behind xs bytes = tag_at xs bytes h in
    let t : Tag = b.1.0 in (
      t,
      b.1.2,
      b.2 (g ++ a) ∙ wide_run g t b.0 b.1.1 a hg ∙ ap (run (gap t)) (sym (append-nil a)) ∙ attribute_start a t [] ha,
    )

-- where an escape may begin
abbrev Takes : List ℕ → Type 0
Takes bytes = (s : State) × (step s 38 ≡ Ok (escaping s ampersand)) × ((rest : List ℕ) → run start (bytes ++ rest) ≡ run s rest)

takes_at : (bytes : List ℕ) → InContents bytes ⊎ InValue bytes → Takes bytes
takes_at bytes (inl h) = (inside (h.0.name ∷ names h.1), refl, contents_run h.0 h.1 bytes h.2)
takes_at bytes (inr h) =
    let a : Attribute = h.2 in
    let b : Behind h.0 h.1 = tag_at h.0 h.1 h.3 in
    let t : Tag = b.1.0 in
    let u : Tag = with_seen t a.name in (
      value u a.quote,
      (takes_value u a.quote h.4.3).1,
      λ rest. (let same : (h.1 ++ spell_unended a) ++ rest ≡ h.1
          ++ (a.gap ++ (a.name ++ (a.left ++ (61 ∷ (a.right ++ (a.quote ∷ (spell_pieces a.value ++ rest))))))) = simp append_assoc in
          ap (λ x. run start (x ++ rest)) h.6
          ∙ ap (run start) same
          ∙ b.2 _
          ∙ ap (λ x. run b.0 (a.gap ++ (a.name ++ (a.left ++ (61 ∷ (a.right ++ (a.quote ∷ x))))))) (pieces_is a.value rest)
          ∙ unended_run a t b.0 b.1.1 h.4 (ap (is_among a.name) b.1.2 ∙ h.5) rest),
    )

-- an escape, and no character of several bytes
abbrev pub IsEscape : Escape → Type 0
IsEscape (wide low high n) = ⊥
IsEscape e = Unit {0}

abbrev Stays : EscapeStep → Type 0
Stays stop = Unit {0}
Stays (on e) = IsEscape e
Stays ended = ⊥

digits_stay : (r : Radix) (k n b : ℕ) → (b == 59) ≡ false → Stays (in_digits r k n b)
digits_stay r k n b e =
    if_case Stays (is_digit_of r b) _ _
    (λ _. if_case Stays (is_begun r (k + 1) (n * base_of r + digit_value b)) _ _ (λ _. tt) (λ _. tt))
    (λ _. if_case Stays (b == 59) _ _ (λ f. absurd (both_ways (b == 59) e f)) (λ _. tt))

-- without a `;` it stays in the escape
stays : (e : Escape) (b : ℕ) → IsEscape e → (b == 59) ≡ false → Stays (in_escape e b)
stays ampersand b h e =
    if_case Stays (b == 35) _ _ (λ _. tt) (λ _. if_case Stays (b == 97) _ _ (λ _. tt) (λ _. if_case Stays (b == 108) _ _ (λ _. tt)
    (λ _. if_case Stays (b == 103) _ _ (λ _. tt) (λ _. if_case Stays (b == 113) _ _ (λ _. tt) (λ _. if_case Stays (b == 110) _ _ (λ _. tt) (λ _. tt))))))
stays apart b h e = if_case Stays (b == 109) _ _ (λ _. tt) (λ _. if_case Stays (b == 112) _ _ (λ _. tt) (λ _. tt))
stays (letters n (c ∷ cs)) b h e = if_case Stays (b == c) _ _ (λ _. tt) (λ _. tt)
stays (letters n []) b h e = if_case Stays (b == 59) _ _ (λ f. absurd (both_ways (b == 59) e f)) (λ _. tt)
stays sharp b h e = if_case Stays (b == 120) _ _ (λ _. tt) (λ _. digits_stay Decimal 0 0 b e)
stays (digits r k n) b h e = digits_stay r k n b e
stays (wide low high n) b h e = absurd h

abbrev Escaped : State → Type 0
Escaped s = (t : State) × (e : Escape) × IsEscape e × (s ≡ escaping t e)

-- read on from an escape
abbrev Ends : List ℕ → State → Result State HtmlWhy → Type 0
Ends bs t o = onward (λ u. run u bs) o ≡ Ok t → Escaped t

ends_not : (bs : List ℕ) (b : ℕ) (t : State) (w : HtmlWhy) → Ends bs t (mended b (Err w))
ends_not bs b t w = if_case (Ends bs t) (begins_character b) _ _ (λ _ e. absurd cc) (λ _ e. absurd cc)

turn_ends : (bs : List ℕ) (b : ℕ) (s t : State) (e : Escape) (o : EscapeStep)
    → ((f : Escape) → IsEscape f → run (escaping s f) bs ≡ Ok t → Escaped t) → Stays o → Ends bs t (mended b (turned s e o))
turn_ends bs b s t e stop k h = ends_not bs b t (why_of e)
turn_ends bs b s t e (on f) k h = k f h
turn_ends bs b s t e ended k h = absurd h

stays_escaped : (bs : List ℕ) (s t : State) (e : Escape) → IsEscape e → Each (λ b. not (b == 59)) bs → run (escaping s e) bs ≡ Ok t → Escaped t
stays_escaped [] s t e h n q = (s, e, h, is_ok q)
  where
    is_ok : run (escaping s e) [] ≡ Ok t → t ≡ escaping s e
    is_ok q = cc
stays_escaped (b ∷ bs) s t e h n q =
    turn_ends bs b s t e (in_escape e b) (λ f i. stays_escaped bs s t f i n.1) (stays e b h (not-true (b == 59) n.0)) q

-- in an escape
pub escape_at : (before : List ℕ) (t : State) → InEscape before → run start before ≡ Ok t → (s : State) × (e : Escape) × IsEscape e × (t ≡ escaping s e)
escape_at before t h q =
    let k : Takes h.0 = takes_at h.0 h.2 in
    let r : run start (h.0 ++ (38 ∷ h.1)) ≡ run (escaping k.0 ampersand) h.1 = k.2 (38 ∷ h.1) ∙ run_step k.0 (escaping k.0 ampersand) 38 h.1 k.1 in
    stays_escaped h.1 k.0 t ampersand tt h.4 (sym r ∙ ap (run start) (sym h.3) ∙ q)
