-- The bytes of a call, as a text of their own, are that call.
use Rattle.std.proofs.Common.{◌≡◌, ℕ, zero, suc, ◌+◌, ◌-◌, ◌⊎◌, Option, Some, None, List, [], ◌∷◌, ◌++◌, take, drop, sym, ap, ◌∙◌, subst, ⊎_elim, inl, inr, arith}
use Rattle.std.specs.Prelude.{slice_range, Contains}
use Rattle.std.proofs.lemmas.List.Elements.{Contains-append_cases}
use Rattle.wt_span.specs.declared.form.Mode.{Mode}
use Rattle.wt_span.specs.declared.form.LexKind.TheVariants.{Opens, Closes}
use Rattle.wt_span.specs.Lexemes.{Word, words}
use Rattle.wt_span.specs.Braces.{Member, Members, lexeme, call, none, more, members, width, width_of_all, call_count, reduced, CallAt, calls_of, calls_of_all, calls, IsCall}
use Rattle.wt_braces.specs.Words.{total_width}
use Rattle.wt_braces.specs.Alone.{IsMadeAlone, IsMade, AreMade, IsAlone, AreAlone, IsOneCall}
use Rattle.wt_braces.proofs.Replays.{calls_are_made, total_append}
use Rattle.wt_braces.proofs.SliceWords.{slice_words}
use Rattle.wt_braces.proofs.TextLaws.{text_width}

bytes_alone : (mode : Mode) (text : List ℕ) (at k : ℕ) (ms : Members) → IsMadeAlone (words mode text) at k ms
    → reduced (words mode (slice_range text at (at + (k + width_of_all ms + k)))) ≡ call k ms ∷ []
bytes_alone mode text at k ms r =
    let j = r.opening in
    let e = r.closing in
    let ws : List Word = (Opens, j) ∷ (r.between ++ (Closes, e) ∷ []) in
    let read = slice_words mode text r.before r.between r.after (r.unused + j) j (e + r.over) e r.all_is r.two_open (omega arith) r.two_close (omega arith) in
    let wide : k + width_of_all ms + k ≡ j + (total_width r.between + e) =
    omega (arith, ap (λ xs. width_of_all (members xs)) r.alone, text_width ws, total_append r.between ((Closes, e) ∷ [])) in
    let size : at + (k + width_of_all ms + k) - at ≡ j + (total_width r.between + e) = omega (arith, wide) in
    let start : total_width r.before + (r.unused + j - j) ≡ at = omega (arith, r.place) in
    ap (λ (n : ℕ). reduced (words mode (take n (drop at text)))) size
    ∙ ap (λ (n : ℕ). reduced (words mode (take (j + (total_width r.between + e)) (drop n text)))) (sym start)
    ∙ ap reduced read ∙ r.alone

mutual
  alone_one : (mode : Mode) (text : List ℕ) (at : ℕ) (m : Member) → IsMade (words mode text) at m → IsAlone mode text at m
  alone_one mode text at (lexeme w) f = tt
  alone_one mode text at (call k ms) f = (bytes_alone mode text at k ms f.0, alone_all mode text (at + k) ms f.1)

  alone_all : (mode : Mode) (text : List ℕ) (at : ℕ) (ms : Members) → AreMade (words mode text) at ms → AreAlone mode text at ms
  alone_all mode text at none f = tt
  alone_all mode text at (more m ms) f = (alone_one mode text at m f.0, alone_all mode text (at + width m) ms f.1)

pub calls_are_alone : (mode : Mode) (text : List ℕ) → AreAlone mode text 0 (members (reduced (words mode text)))
calls_are_alone mode text = alone_all mode text 0 (members (reduced (words mode text))) (calls_are_made (words mode text))

-- ---- a call by its places

abbrev AloneAt : Mode → List ℕ → CallAt → Type 0
AloneAt mode text c = IsOneCall mode (slice_range text c.from c.to)

first_or_later : (x c : CallAt) (xs : List CallAt) → Contains (x ∷ xs) c → (x ≡ c) ⊎ Contains xs c
first_or_later x c xs (zero, below, e) = inl e
first_or_later x c xs (suc k, below, e) = inr (k, omega (arith, below), e)

none_in : (c : CallAt) → Contains [] c → ⊥
none_in c (k, below, e) = omega (arith, below)

mutual
  found_one : (mode : Mode) (text : List ℕ) (at : ℕ) (parent : Option ℕ) (n : ℕ) (m : Member) (c : CallAt)
      → IsAlone mode text at m → Contains (calls_of at parent n m) c → AloneAt mode text c
  found_one mode text at parent n (lexeme w) c f h = absurd (none_in c h)
  found_one mode text at parent n (call k ms) c f h = ⊎_elim
      (λ e. subst (AloneAt mode text) e (record { braces = k; inside = ms; is = f.0 }))
      (λ g. found_all mode text (at + k) (Some n) (n + 1) ms c f.1 g)
      (first_or_later _ c (calls_of_all (at + k) (Some n) (n + 1) ms) h)

  found_all : (mode : Mode) (text : List ℕ) (at : ℕ) (parent : Option ℕ) (n : ℕ) (ms : Members) (c : CallAt)
      → AreAlone mode text at ms → Contains (calls_of_all at parent n ms) c → AloneAt mode text c
  found_all mode text at parent n none c f h = absurd (none_in c h)
  found_all mode text at parent n (more m ms) c f h = ⊎_elim
      (λ g. found_one mode text at parent n m c f.0 g)
      (λ g. found_all mode text (at + width m) parent (n + call_count m) ms c f.1 g)
      (Contains-append_cases (calls_of at parent n m) (calls_of_all (at + width m) parent (n + call_count m) ms) c h)

pub one_call : (mode : Mode) (bs : List ℕ) → IsCall mode bs → IsOneCall mode bs
unfolding calls
one_call mode bs (text, c, there, is) =
    subst (IsOneCall mode) (sym is) (found_all mode text 0 None 0 (members (reduced (words mode text))) c (calls_are_alone mode text) there)
