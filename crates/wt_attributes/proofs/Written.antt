-- What is written as an attribute is read as one.
use Rattle.std.proofs.Common.{◌≡◌, ◌<◌, ℕ, ◌+◌, ◌==◌, Bool, true, false, Some, List, [], ◌∷◌, ◌++◌, length, take, drop, refl, sym, ap, ◌∙◌, subst, ◌⊎◌, inl, inr, arith, append_assoc}
use Rattle.std.specs.Prelude.{not, codes}
use Rattle.std.specs.Char.{to_ascii_lowercase}
use Rattle.std.specs.Str.{bytes_eq}
use Rattle.std.specs.List.{prefix_len}
use Rattle.std.proofs.lemmas.Bool.Decides.{nat_tests}
use Rattle.std.proofs.lemmas.List.{length-map, length-append, map-append, take-map, take_at, drop_at}
use Rattle.wt_span.specs.Bytes.{is_blank, lower}
use Rattle.wt_tree.specs.declared.kind.AttrName.{AttrName}
use Rattle.wt_tree.specs.declared.kind.AttrName.TheVariants as attr
use Rattle.wt_attributes.specs.declared.class.ScanClass.{ScanClass}
use Rattle.wt_attributes.specs.declared.class.ScanClass.TheVariants as class
use Rattle.wt_attributes.specs.Classes.{is_bare, run_len}
use Rattle.wt_attributes.specs.Attributes.{Read, begins_any_case, ended, name_at, quoted, bare, value_at, past_blanks, after_equals, value_in, assigned, with_name, with_value, attribute_at}
use Rattle.wt_attributes.specs.Spelled.{Value, Spelled, spell_value, spell, characters_of, meaning, IsName, Each, EndsAt, IsValue, IsSpelled}
use Rattle.wt_attributes.specs.Spelled.{quoted as in_quotes, bare as without_quotes}
use Rattle.wt_attributes.proofs.Runs.{run_over}
use Rattle.wt_attributes.proofs.Fronts.{ended_is, test_of_lt}

-- ---- names

-- a word begins a text by the text in lower case
abbrev test : List ℕ → List ℕ → Bool
test low w = bytes_eq (take (length w) low) (lower w)

test_is : (w bs low : List ℕ) → lower bs ≡ low → begins_any_case w bs ≡ test low w
unfolding begins_any_case
test_is w bs low e = ap (λ (l : List ℕ). bytes_eq l (lower w)) (sym (take-map to_ascii_lowercase (length w) bs))
    ∙ ap (λ (l : List ℕ). bytes_eq (take (length w) l) (lower w)) e

low_front : (word rest lit : List ℕ) → lower word ≡ lit → lower (word ++ rest) ≡ lit ++ lower rest
low_front word rest lit h = map-append to_ascii_lowercase word rest ∙ ap (λ (l : List ℕ). l ++ lower rest) h

left_behind : (word rest lit : List ℕ) → lower word ≡ lit → drop (length lit) (word ++ rest) ≡ rest
left_behind word rest lit h = drop_at word rest (length lit) (sym (length-map word to_ascii_lowercase) ∙ ap length h)

class_read : (word rest : List ℕ) → lower word ≡ codes "class" → name_at (word ++ rest) ≡ Some (attr.Class, rest)
unfolding name_at
class_read word rest h =
    let bs = word ++ rest in
    let low = low_front word rest (codes "class") h in
    rw (test_is (codes "class") bs _ low) (ap (λ (l : List ℕ). Some (attr.Class, l)) (left_behind word rest (codes "class") h))

colspan_read : (word rest : List ℕ) → lower word ≡ codes "colspan" → name_at (word ++ rest) ≡ Some (attr.Colspan, rest)
unfolding name_at
colspan_read word rest h =
    let bs = word ++ rest in
    let low = low_front word rest (codes "colspan") h in
    rw (test_is (codes "class") bs _ low, test_is (codes "colspan") bs _ low)
    (ap (λ (l : List ℕ). Some (attr.Colspan, l)) (left_behind word rest (codes "colspan") h))

rowspan_read : (word rest : List ℕ) → lower word ≡ codes "rowspan" → name_at (word ++ rest) ≡ Some (attr.Rowspan, rest)
unfolding name_at
rowspan_read word rest h =
    let bs = word ++ rest in
    let low = low_front word rest (codes "rowspan") h in
    rw (test_is (codes "class") bs _ low, test_is (codes "colspan") bs _ low, test_is (codes "rowspan") bs _ low)
    (ap (λ (l : List ℕ). Some (attr.Rowspan, l)) (left_behind word rest (codes "rowspan") h))

scope_read : (word rest : List ℕ) → lower word ≡ codes "scope" → name_at (word ++ rest) ≡ Some (attr.Scope, rest)
unfolding name_at
scope_read word rest h =
    let bs = word ++ rest in
    let low = low_front word rest (codes "scope") h in
    rw (test_is (codes "class") bs _ low, test_is (codes "colspan") bs _ low, test_is (codes "rowspan") bs _ low, test_is (codes "scope") bs _ low)
    (ap (λ (l : List ℕ). Some (attr.Scope, l)) (left_behind word rest (codes "scope") h))

lang_read : (word rest : List ℕ) → lower word ≡ codes "lang" → name_at (word ++ rest) ≡ Some (attr.Lang, rest)
unfolding name_at
lang_read word rest h =
    let bs = word ++ rest in
    let low = low_front word rest (codes "lang") h in
    rw (
      test_is (codes "class") bs _ low,
      test_is (codes "colspan") bs _ low,
      test_is (codes "rowspan") bs _ low,
      test_is (codes "scope") bs _ low,
      test_is (codes "lang") bs _ low,
    )
    (ap (λ (l : List ℕ). Some (attr.Lang, l)) (left_behind word rest (codes "lang") h))

dir_read : (word rest : List ℕ) → lower word ≡ codes "dir" → name_at (word ++ rest) ≡ Some (attr.Dir, rest)
unfolding name_at
dir_read word rest h =
    let bs = word ++ rest in
    let low = low_front word rest (codes "dir") h in
    rw (
      test_is (codes "class") bs _ low,
      test_is (codes "colspan") bs _ low,
      test_is (codes "rowspan") bs _ low,
      test_is (codes "scope") bs _ low,
      test_is (codes "lang") bs _ low,
      test_is (codes "dir") bs _ low,
    )
    (ap (λ (l : List ℕ). Some (attr.Dir, l)) (left_behind word rest (codes "dir") h))

name_read : (m : AttrName) (word rest : List ℕ) → IsName m (lower word) → name_at (word ++ rest) ≡ Some (m, rest)
name_read attr.About word rest h = absurd h
name_read attr.Typeof word rest h = absurd h
name_read attr.Property word rest h = absurd h
name_read attr.Rel word rest h = absurd h
name_read attr.Href word rest h = absurd h
name_read attr.Class word rest h = class_read word rest h
name_read attr.Colspan word rest h = colspan_read word rest h
name_read attr.Rowspan word rest h = rowspan_read word rest h
name_read attr.Scope word rest h = scope_read word rest h
name_read attr.Lang word rest h = lang_read word rest h
name_read attr.Dir word rest h = dir_read word rest h
name_read attr.Id word rest h = absurd h
name_read attr.DataMw word rest h = absurd h
name_read attr.DataParsoid word rest h = absurd h

-- ---- values

quoted_read : (c : ScanClass) (q : ℕ) (v rest : List ℕ) → ((bs : List ℕ) → run_len c bs ≡ prefix_len (λ b. not (b == q)) bs)
    → not (q == q) ≡ false → Each (λ b. not (b == q)) v
    → quoted c ((v ++ q ∷ []) ++ rest) ≡ Some (v, rest)
unfolding quoted
quoted_read c q v rest is ends each =
    let bs = (v ++ q ∷ []) ++ rest in
    let same : bs ≡ v ++ (q ∷ rest) = append_assoc v (q ∷ []) rest in
    let n : run_len c bs ≡ length v = is bs ∙ ap (prefix_len (λ b. not (b == q))) same ∙ run_over (λ b. not (b == q)) v (q ∷ rest) each ends in
    let size : length (v ++ q ∷ []) ≡ length v + 1 = length-append v (q ∷ []) in
    let within : length v < length bs = omega (arith, length-append (v ++ q ∷ []) rest, size) in
    let front : take (length v) bs ≡ v = ap (take (length v)) same ∙ take_at v (q ∷ rest) (length v) refl in
    let back : drop (length v + 1) bs ≡ rest = drop_at (v ++ q ∷ []) rest (length v + 1) size in
    ap (λ (k : ℕ). ended k bs) n ∙ ended_is (length v) bs within ∙ ap (λ (l : List ℕ). Some (l, drop (length v + 1) bs)) front
    ∙ ap (λ (l : List ℕ). Some (v, l)) back

bare_read : (v rest : List ℕ) → 0 < length v → Each is_bare v → EndsAt is_bare rest → bare (v ++ rest) ≡ Some (v, rest)
unfolding bare
bare_read v rest s each ends =
    let n = run_over is_bare v rest each ends in
    rw (n, test_of_lt 0 (length v) s, take_at v rest (length v) refl, drop_at v rest (length v) refl) refl

-- a value without quotes begins with neither quote
bare_first : (b : ℕ) (bs : List ℕ) (x : Read (List ℕ)) → is_bare b ≡ true → bare (b ∷ bs) ≡ x → value_at (b ∷ bs) ≡ x
unfolding value_at
bare_first b bs x h e =
    let d : (b == 34) ≡ false = grind (arith, nat_tests) in
    let s : (b == 39) ≡ false = grind (arith, nat_tests) in
    rw (d, s) e

double_read : (q : ℕ) (v rest : List ℕ) → q ≡ 34 → Each (λ b. not (b == q)) v → value_at (q ∷ ((v ++ q ∷ []) ++ rest)) ≡ Some (v, rest)
unfolding value_at
double_read q v rest e h =
    let P : ℕ → Type 0 = λ k. Each (λ b. not (b == k)) v → value_at (k ∷ ((v ++ k ∷ []) ++ rest)) ≡ Some (v, rest) in
    subst P (sym e) (quoted_read class.NoDouble 34 v rest (λ bs. refl) refl) h

single_read : (q : ℕ) (v rest : List ℕ) → q ≡ 39 → Each (λ b. not (b == q)) v → value_at (q ∷ ((v ++ q ∷ []) ++ rest)) ≡ Some (v, rest)
unfolding value_at
single_read q v rest e h =
    let P : ℕ → Type 0 = λ k. Each (λ b. not (b == k)) v → value_at (k ∷ ((v ++ k ∷ []) ++ rest)) ≡ Some (v, rest) in
    subst P (sym e) (quoted_read class.NoSingle 39 v rest (λ bs. refl) refl) h

value_read : (value : Value) (rest : List ℕ) → IsValue value rest → value_at (spell_value value ++ rest) ≡ Some (characters_of value, rest)
value_read (in_quotes q v) rest h = elim h.0 [ inl e ↦ double_read q v rest e h.1 | inr e ↦ single_read q v rest e h.1 ]
value_read (without_quotes []) rest h = absurd (omega (arith, h.0))
value_read (without_quotes (b ∷ bs)) rest h = bare_first b (bs ++ rest) (Some (b ∷ bs, rest)) h.1.0 (bare_read (b ∷ bs) rest h.0 h.1 h.2)

-- ---- what is given

past_over : (gap bs : List ℕ) → Each is_blank gap → EndsAt is_blank bs → past_blanks (gap ++ bs) ≡ bs
unfolding past_blanks
past_over gap bs h e = ap (λ (n : ℕ). drop n (gap ++ bs)) (run_over is_blank gap bs h e) ∙ drop_at gap bs (length gap) refl

quote_no_blank : (q : ℕ) → (q ≡ 34) ⊎ (q ≡ 39) → is_blank q ≡ false
quote_no_blank q h = elim h [ inl e ↦ ap is_blank e | inr e ↦ ap is_blank e ]

bare_no_blank : (b : ℕ) → is_bare b ≡ true → is_blank b ≡ false
bare_no_blank b h = grind (arith, nat_tests)

value_no_blank : (value : Value) (rest : List ℕ) → IsValue value rest → EndsAt is_blank (spell_value value ++ rest)
value_no_blank (in_quotes q v) rest h = quote_no_blank q h.0
value_no_blank (without_quotes []) rest h = absurd (omega (arith, h.0))
value_no_blank (without_quotes (b ∷ bs)) rest h = bare_no_blank b h.1.0

given_read : (before after : List ℕ) (value : Value) (rest : List ℕ) → Each is_blank before → Each is_blank after → IsValue value rest
    → assigned (before ++ (61 ∷ (after ++ (spell_value value ++ rest)))) ≡ Some (characters_of value, rest)
unfolding assigned
given_read before after value rest b a h =
    let bs = spell_value value ++ rest in
    ap (λ (l : List ℕ). value_in (after_equals l)) (past_over before (61 ∷ (after ++ bs)) b refl)
    ∙ ap value_at (past_over after bs a (value_no_blank value rest h)) ∙ value_read value rest h

spell_apart : (w b a v rest : List ℕ) → (w ++ (b ++ (61 ∷ (a ++ v)))) ++ rest ≡ w ++ (b ++ (61 ∷ (a ++ (v ++ rest))))
spell_apart w b a v rest = simp append_assoc

pub attribute_read : (s : Spelled) (rest : List ℕ) → IsSpelled s rest → attribute_at (spell s ++ rest) ≡ Some (meaning s, rest)
unfolding attribute_at
attribute_read s rest h =
    let more = s.before ++ (61 ∷ (s.after ++ (spell_value s.value ++ rest))) in
    ap (λ (l : List ℕ). with_value (name_at l)) (spell_apart s.word s.before s.after (spell_value s.value) rest)
    ∙ ap with_value (name_read s.name s.word more h.named)
    ∙ ap (with_name s.name) (given_read s.before s.after s.value rest h.blank_before h.blank_after h.valued)
