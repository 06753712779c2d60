-- What was read, and one byte or a run more.
use Rattle.std.proofs.Common.{◌≡◌, ℕ, ◌+◌, ◌<◌, ◌≤◌, true, codes, length-drop, Option, Some, None, Result, Ok, Err, List, [], ◌∷◌, ◌++◌, length, take, drop, get_or, append_assoc, refl, sym, ap, ◌∙◌, subst, arith}
use Rattle.std.specs.Prelude.{◌==◌}
use Rattle.std.specs.List.{list_all}
use Rattle.std.proofs.lemmas.List.{take-append-drop, length-take-le}
use Rattle.wt_html_grammar.specs.declared.why.HtmlWhy.{HtmlWhy}
use Rattle.wt_html_grammar.specs.declared.event.Event.{Event}
use Rattle.wt_html_grammar.specs.Signs.{is_void, is_lower, is_name_byte, is_attribute_byte, in_text, in_value}
use Rattle.wt_html_grammar.specs.Machine.{State, start, first, doctype, inside, less, naming, gap, attribute, named_so, equals, value, valued, slashed, closing, closed, escaping, Escape, ampersand, apart, letters, sharp, digits, wide, Tag, step, mended, run, onward}
use Rattle.wt_html_grammar.specs.Places.{taken}
use Rattle.wt_html_grammar.specs.Markup.{empty}
use Rattle.wt_html_grammar.specs.Events.{Building, calm, put, out, out_open, out_end, out_name, out_escape, unit_if, decoded, tell, tell_on, built}
use Rattle.wt_html_grammar.proofs.Steps.{if_case, run_append}
use Rattle.wt_html_grammar.proofs.Places.{run_push, run_err, taken_last, taken_err}
use Rattle.wt_html_reasons.specs.declared.refusal.Fault.{Fault}
use Rattle.wt_html_reasons.specs.declared.refusal.Fault.TheVariants as faults
use Rattle.wt_html_elements.specs.declared.machine.Mode.{Mode}
use Rattle.wt_html_elements.specs.declared.machine.Mode.TheVariants as modes
use Rattle.wt_html_elements.specs.declared.machine.Within.{Within}
use Rattle.wt_html_elements.specs.declared.machine.Within.TheVariants as withins
use Rattle.wt_html_elements.specs.declared.machine.Machine.{Machine}
use Rattle.wt_html_elements.specs.declared.reading.Reading.{Reading}
use Rattle.wt_html_elements.specs.View.{inside_of, place_at, view, view_after}
use Rattle.wt_html_elements.specs.Built.{building}
use Rattle.wt_html_elements.specs.Held.{tag_len, moved, needed, spent, fits, may_be_put}
use Rattle.wt_html_elements.specs.Kept.{IsKept}
use Rattle.wt_html_elements.specs.Runs.{stays, put_run}
use Rattle.wt_html_elements.specs.Reads.{parts_of, state_of, Reads, held_behind, TookByte, TookRun, Took}
use Rattle.wt_html_elements.proofs.Keeping.{none_kept}
use Rattle.wt_html_elements.proofs.Standing.{IsShort, push_kept}
use Rattle.wt_html_elements.proofs.Runs.{runs_of, run_view}
use Rattle.wt_html_elements.proofs.Going.{Linked, Holds, goes_byte}

tell_more : (bs cs : List ℕ) (t : State) (x : Building) (g : State → Building)
    → ((u : State) → run u bs ≡ Ok t → tell (g u) u (bs ++ cs) ≡ tell (tell (g u) u bs) t cs)
    → (o : Result State HtmlWhy) → onward (λ u. run u bs) o ≡ Ok t → tell_on x (λ u. tell (g u) u (bs ++ cs)) o ≡ tell (tell_on x (λ u. tell (g u) u bs) o) t cs
tell_more bs cs t x g h (Ok u) e = h u e
tell_more bs cs t x g h (Err w) e = absurd cc

state_eq : (s t : State) (o : Result State HtmlWhy) → o ≡ Ok s → o ≡ Ok t → s ≡ t
state_eq s t (Ok u) e f = cc
state_eq s t (Err w) e f = cc

-- what is told in two pieces
tell_append : (bs cs : List ℕ) (x : Building) (s t : State) → run s bs ≡ Ok t → tell x s (bs ++ cs) ≡ tell (tell x s bs) t cs
tell_append [] cs x s t e = ap (λ u. tell x u cs) (state_eq s t (Ok s) refl e)
tell_append (b ∷ bs) cs x s t e = tell_more bs cs t x (λ u. put x (out s b)) (λ u f. tell_append bs cs (put x (out s b)) u t f) (mended b (step s b)) e

told_last : (x : Building) (s t : State) (b : ℕ) → mended b (step s b) ≡ Ok t → tell x s (b ∷ []) ≡ put x (out s b)
told_last x s t b e = ap (tell_on x (λ u. put x (out s b))) e

-- nothing was read
pub new_reads : (g : Reading) → ((x : Building) → view g.machine x ≡ start) → building g.builder ≡ calm [] empty → Reads g [] 0
new_reads g m b =
    let s : state_of g ≡ start = m (parts_of g) in (
      ap Ok (sym s),
      b ∙ ap (λ u. needed u (built [])) (sym s),
      ap (λ u. fits u (parts_of g)) s ∙ ap (fits start) b,
      omega (arith, ap tag_len b, ap spent s),
      none_kept,
    )

short_at : (k : Mode) (m : Machine) (x : Building) → IsShort (place_at k m x)
short_at modes.Start m x = tt
short_at modes.First m x = tt
short_at modes.Doctype m x = omega (arith, length-drop m.at (codes "doctype html>"))
short_at modes.Inside m x = tt
short_at modes.Less m x = tt
short_at modes.Naming m x = tt
short_at modes.Gap m x = tt
short_at modes.Attribute m x = tt
short_at modes.Named m x = tt
short_at modes.Equals m x = tt
short_at modes.Value m x = tt
short_at modes.Valued m x = tt
short_at modes.Slashed m x = tt
short_at modes.Closing m x = tt
short_at modes.Closed m x = tt

short_in : (w : Within) (s : State) → IsShort s → IsShort (inside_of w s)
short_in withins.Nothing s h = h
short_in (withins.Escape e) s h = tt
short_in (withins.Character f) s h = tt

short_view : (m : Machine) (x : Building) → IsShort (view m x)
short_view m x = short_in m.within (place_at m.mode m x) (short_at m.mode m x)

linked_at : (k : Mode) (m : Machine) (x : Building) → Linked (place_at k m x) x
linked_at modes.Start m x = tt
linked_at modes.First m x = tt
linked_at modes.Doctype m x = tt
linked_at modes.Inside m x = tt
linked_at modes.Less m x = tt
linked_at modes.Naming m x = tt
linked_at modes.Gap m x = tt
linked_at modes.Attribute m x = (refl, refl)
linked_at modes.Named m x = tt
linked_at modes.Equals m x = tt
linked_at modes.Value m x = tt
linked_at modes.Valued m x = tt
linked_at modes.Slashed m x = tt
linked_at modes.Closing m x = tt
linked_at modes.Closed m x = tt

linked_in : (w : Within) (s : State) (x : Building) → Linked s x → Linked (inside_of w s) x
linked_in withins.Nothing s x h = h
linked_in (withins.Escape e) s x h = tt
linked_in (withins.Character f) s x h = tt

-- a byte that was taken
pub byte_reads : (g h : Reading) (b : ℕ) (e : Event) → mended b (step (state_of g) b) ≡ Ok (view_after h.machine (parts_of g) e) → e ≡ out (state_of g) b
    → parts_of h ≡ moved (parts_of g) e → (bytes : List ℕ) (k : ℕ) → Reads g bytes k → Reads h (bytes ++ b ∷ []) (held_behind (state_of h) (k + 1))
byte_reads g h b e m o p bytes k r =
    let s : State = state_of g in
    let t : State = state_of h in
    let x : Building = parts_of g in
    let y : Building = built bytes in
    let f : mended b (step s b) ≡ Ok t = m ∙ ap (λ z. Ok (view h.machine z)) (sym p) in
    let q : parts_of h ≡ moved x (out s b) = p ∙ ap (moved x) o in
    let l : Linked s x = linked_in g.machine.within (place_at g.machine.mode g.machine x) x (linked_at g.machine.mode g.machine x) in
    let n : Holds t (moved x (out s b)) (put y (out s b)) (k + 1) = goes_byte s t b x y k l r.1 r.2 r.3 f in
    let u : built (bytes ++ b ∷ []) ≡ put y (out s b) =
    tell_append bytes (b ∷ []) (calm [] empty) start s r.0 ∙ told_last y s t b f in (
      run_push bytes b start s r.0 ∙ f,
      q ∙ n.same ∙ ap (needed t) (sym u),
      ap (fits t) q ∙ n.fit,
      omega (arith, ap tag_len q, n.few),
      push_kept bytes b k s t r.0 f (short_view h.machine (parts_of h)) r.4,
    )

pub byte_ill : (g h : Reading) (b : ℕ) (w : HtmlWhy) → mended b (step (state_of g) b) ≡ Err w → (bytes : List ℕ) (k : ℕ) → Reads g bytes k
    → TookByte (Err (faults.Html w)) h bytes b k
byte_ill g h b w m bytes k r = (run_push bytes b start (state_of g) r.0 ∙ m, taken_last bytes b start (state_of g) w r.0 m)

-- a run that was taken
pub run_reads : (g h : Reading) (bs : List ℕ) → h.machine ≡ g.machine → g.machine.within ≡ withins.Nothing
    → parts_of h ≡ put_run (parts_of g) (state_of g) bs → 0 < length bs → list_all (stays (state_of g)) bs ≡ true
    → (bytes : List ℕ) (k : ℕ) → Reads g bytes k → Reads h (bytes ++ bs) (held_behind (state_of h) (k + length bs))
run_reads g h bs m z p lt all bytes k r =
    let s : State = state_of g in
    let t : State = state_of h in
    let y : Building = built bytes in
    let x = runs_of s bs lt all in
    let e : t ≡ s = ap (λ n. view n (parts_of h)) m ∙ ap (view g.machine) p ∙ run_view g.machine (parts_of g) bs z in
    let q : parts_of h ≡ put_run (needed s y) s bs = p ∙ ap (λ v. put_run v s bs) r.1 in
    let P : State → Type 0 = λ u.
    (run start (bytes ++ bs) ≡ Ok u) × (parts_of h ≡ needed u (built (bytes ++ bs))) × (fits u (parts_of h) ≡ true)
    × (tag_len (parts_of h) + spent u ≤ held_behind u (k + length bs)) × IsKept (bytes ++ bs) (held_behind u (k + length bs)) in
    let few : tag_len (needed s y) + spent s ≤ k = omega (arith, ap tag_len r.1, r.3) in
    let u : built (bytes ++ bs) ≡ put_run y s bs = tell_append bytes bs (calm [] empty) start s r.0 ∙ x.tells y in
    subst P (sym e) (
      run_append start bytes bs ∙ ap (onward (λ v. run v bs)) r.0 ∙ x.runs,
      q ∙ x.same y ∙ ap (needed s) (sym u),
      ap (fits s) p ∙ x.fit (parts_of g) r.2,
      omega (arith, ap tag_len q, x.few y k few),
      x.keeps bytes k (short_view g.machine (parts_of g)) r.0 r.4,
    )

-- what a byte tells may be built
may_open : (t : Tag) (b : ℕ) (x : Building) → may_be_put x (out_open t b) ≡ true
may_open t b x =
    if_case (λ e. may_be_put x e ≡ true) (b == 62) _ _ (λ _. if_case (λ e. may_be_put x e ≡ true) (is_void t.name) _ _ (λ _. refl) (λ _. refl)) (λ _. refl)

may_end : (b : ℕ) (x : Building) → may_be_put x (out_end b) ≡ true
may_end b x = if_case (λ e. may_be_put x e ≡ true) (b == 62) _ _ (λ _. refl) (λ _. refl)

may_name : (b : ℕ) (x : Building) → may_be_put x (out_name b) ≡ true
may_name b x = if_case (λ e. may_be_put x e ≡ true) (is_lower b) _ _ (λ _. refl) (λ _. refl)

may_text : (ns : List (List ℕ)) (o : Option ℕ) (x : Building) → may_be_put x (unit_if (inside ns) o) ≡ true
may_text ns None x = refl
may_text ns (Some c) x = refl

may_value : (t : Tag) (q : ℕ) (o : Option ℕ) (x : Building) → may_be_put x (unit_if (value t q) o) ≡ true
may_value t q None x = refl
may_value t q (Some c) x = refl

may_text_escape : (ns : List (List ℕ)) (e : Escape) (b : ℕ) (x : Building) → may_be_put x (out_escape (inside ns) e b) ≡ true
may_text_escape ns ampersand b x = refl
may_text_escape ns apart b x = refl
may_text_escape ns (letters n cs) b x = may_text ns (decoded (letters n cs) b) x
may_text_escape ns sharp b x = refl
may_text_escape ns (digits r k n) b x = may_text ns (decoded (digits r k n) b) x
may_text_escape ns (wide low high n) b x = refl

may_value_escape : (t : Tag) (q : ℕ) (e : Escape) (b : ℕ) (x : Building) → may_be_put x (out_escape (value t q) e b) ≡ true
may_value_escape t q ampersand b x = refl
may_value_escape t q apart b x = refl
may_value_escape t q (letters n cs) b x = may_value t q (decoded (letters n cs) b) x
may_value_escape t q sharp b x = refl
may_value_escape t q (digits r k n) b x = may_value t q (decoded (digits r k n) b) x
may_value_escape t q (wide low high n) b x = refl

may_put : (s : State) (b : ℕ) (x : Building) → fits s x ≡ true → may_be_put x (out s b) ≡ true
may_put start b x f = refl
may_put first b x f = may_name b x
may_put (doctype cs) b x f = refl
may_put (inside []) b x f = refl
may_put (inside (n ∷ ns)) b x f = if_case (λ e. may_be_put x e ≡ true) (in_text b) _ _ (λ _. refl) (λ _. refl)
may_put (less ns) b x f = may_name b x
may_put (naming ns n) b x f = if_case (λ e. may_be_put x e ≡ true) (is_name_byte b) _ _ (λ _. refl) (λ _. may_open (record { outer = ns; name = n; seen = [] }) b x)
may_put (gap t) b x f = if_case (λ e. may_be_put x e ≡ true) (is_attribute_byte b) _ _ (λ _. refl) (λ _. may_open t b x)
may_put (attribute t a) b x f = if_case (λ e. may_be_put x e ≡ true) (is_attribute_byte b) _ _ (λ _. refl) (λ _. refl)
may_put (named_so t) b x f = refl
may_put (equals t) b x f =
    if_case (λ e. may_be_put x e ≡ true) (b == 34) _ _ (λ _. refl) (λ _. if_case (λ e. may_be_put x e ≡ true) (b == 39) _ _ (λ _. refl) (λ _. refl))
may_put (value t q) b x f =
    if_case (λ e. may_be_put x e ≡ true) (in_value q b) _ _ (λ _. refl) (λ _. if_case (λ e. may_be_put x e ≡ true) (b == q) _ _ (λ _. f) (λ _. refl))
may_put (valued t) b x f = may_open t b x
may_put (slashed t) b x f = refl
may_put (closing (c ∷ cs) ns) b x f = refl
may_put (closing [] ns) b x f = may_end b x
may_put (closed ns) b x f = may_end b x
may_put (escaping (inside ns) e) b x f = may_text_escape ns e b x
may_put (escaping (value t q) e) b x f = may_value_escape t q e b x
may_put (escaping start e) b x f = absurd cc
may_put (escaping first e) b x f = absurd cc
may_put (escaping (doctype cs) e) b x f = absurd cc
may_put (escaping (less ns) e) b x f = absurd cc
may_put (escaping (naming ns n) e) b x f = absurd cc
may_put (escaping (gap t) e) b x f = absurd cc
may_put (escaping (attribute t a) e) b x f = absurd cc
may_put (escaping (named_so t) e) b x f = absurd cc
may_put (escaping (equals t) e) b x f = absurd cc
may_put (escaping (valued t) e) b x f = absurd cc
may_put (escaping (slashed t) e) b x f = absurd cc
may_put (escaping (closing cs ns) e) b x f = absurd cc
may_put (escaping (closed ns) e) b x f = absurd cc
may_put (escaping (escaping s d) e) b x f = absurd cc

pub may_be : (s : State) (b : ℕ) (x : Building) (e : Event) → e ≡ out s b → fits s x ≡ true → may_be_put x e ≡ true
may_be s b x e o f = ap (may_be_put x) o ∙ may_put s b x f

-- what was taken of a piece
pub run_took : (g h : Reading) (piece front : List ℕ) (n : ℕ) → front ≡ take n piece → n ≤ length piece
    → ((bytes : List ℕ) (k : ℕ) → Reads g bytes k → Reads h (bytes ++ front) (held_behind (state_of h) (k + length front)))
    → (bytes : List ℕ) (k : ℕ) → Reads g bytes k → Reads h (bytes ++ take n piece) (held_behind (state_of h) (k + n))
run_took g h piece front n e l f bytes k r =
    let P : List ℕ → ℕ → Type 0 = λ w j. Reads h (bytes ++ w) (held_behind (state_of h) (k + j)) in
    let Q : ℕ → Type 0 = P (take n piece) in
    let R : List ℕ → Type 0 = λ w. P w (length w) in
    subst Q (length-take-le n piece l) (subst R e (f bytes k r))

pub byte_took : (g h : Reading) (piece : List ℕ) (b : ℕ) → b ∷ [] ≡ take 1 piece
    → ((bytes : List ℕ) (k : ℕ) → Reads g bytes k → Reads h (bytes ++ b ∷ []) (held_behind (state_of h) (k + 1)))
    → (bytes : List ℕ) (k : ℕ) → Reads g bytes k → Reads h (bytes ++ take 1 piece) (held_behind (state_of h) (k + 1))
byte_took g h piece b e f bytes k r =
    let P : List ℕ → Type 0 = λ w. Reads h (bytes ++ w) (held_behind (state_of h) (k + 1)) in subst P e (f bytes k r)

pub run_failed : (g h : Reading) (piece front : List ℕ) (f : Fault) (o : Result ℕ Fault) → o ≡ Err f
    → ((bytes : List ℕ) (k : ℕ) → Reads g bytes k → TookRun (Err f) h bytes front k) → (bytes : List ℕ) (k : ℕ) → Reads g bytes k → Took o h bytes piece k
run_failed g h piece front f o e w bytes k r =
    let P : Result ℕ Fault → Type 0 = λ p. Took p h bytes piece k in
    let Q : Fault → Type 0 = λ d. Took (Err d) h bytes piece k in
    subst P (sym e) (subst Q (sym (w bytes k r)) tt)

err_took : (h : Reading) (piece : List ℕ) (b : ℕ) (f : Fault) (bytes : List ℕ) (k : ℕ) → b ∷ [] ≡ take 1 piece → TookByte (Err f) h bytes b k
    → Took (Err f) h bytes piece k
err_took h piece b (faults.Html w) bytes k e t =
    let whole : (bytes ++ b ∷ []) ++ drop 1 piece ≡ bytes ++ piece =
    append_assoc bytes (b ∷ []) (drop 1 piece) ∙ ap (λ x. bytes ++ (x ++ drop 1 piece)) e ∙ ap (λ x. bytes ++ x) (take-append-drop 1 piece) in
    let P : List ℕ → Type 0 = λ x. (run start x ≡ Err w) × (taken start x ≡ length bytes) in
    subst P whole (run_err (bytes ++ b ∷ []) (drop 1 piece) start w t.0, taken_err (bytes ++ b ∷ []) (drop 1 piece) start w t.0 ∙ t.1)
err_took h piece b faults.NoMemory bytes k e t = tt

pub byte_failed : (g h : Reading) (piece : List ℕ) (b : ℕ) (f : Fault) (o : Result ℕ Fault) → o ≡ Err f → b ∷ [] ≡ take 1 piece
    → ((bytes : List ℕ) (k : ℕ) → Reads g bytes k → TookByte (Err f) h bytes b k) → (bytes : List ℕ) (k : ℕ) → Reads g bytes k → Took o h bytes piece k
byte_failed g h piece b f o e d w bytes k r =
    let P : Result ℕ Fault → Type 0 = λ p. Took p h bytes piece k in subst P (sym e) (err_took h piece b f bytes k d (w bytes k r))

-- a byte is the front of a piece
pub first_one : (piece : List ℕ) → 0 < length piece → get_or piece 0 0 ∷ [] ≡ take 1 piece
first_one [] lt = absurd (omega arith)
first_one (b ∷ bs) lt = refl
