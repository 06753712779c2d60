-- What is behind a heading's last `=` has no character `<`, so all that begins there ends there.
use Rattle.std.proofs.Common.{arith, inr, ◌≡◌, ◌≢◌, ℕ, zero, suc, ◌-◌, Bool, true, false, Option, Some, None, List, [], ◌∷◌, ◌++◌, take, codes, refl, sym, ap, ◌∙◌, subst}
use Rattle.std.specs.Prelude.{◌&&◌, ◌||◌, not, is_some, if◌then◌else◌}
use Rattle.std.specs.Char.{is_ascii_alphabetic}
use Rattle.std.specs.Str.{bytes_eq}
use Rattle.std.proofs.lemmas.Slice.Eq.{bytes_eq-Decides}
use Rattle.wt_span.specs.declared.form.Mode.TheVariants.{Page}
use Rattle.wt_span.specs.Bytes.{is_break}
use Rattle.wt_span.specs.Entities.{entity_at, named_entity, entity_names, decimal_entity, hex_entity}
use Rattle.wt_span.specs.Items.{Item, char, sign, sources}
use Rattle.wt_span.specs.Lexemes.{Word, sign_word, form_at}
use Rattle.wt_span.specs.Tags.{Tag, opening_tag, closing_tag, with_inside, is_extension, is_raw_name, is_noinclude, is_onlyinclude, hides, is_left_out, raw_len, include_at}
use Rattle.wt_lex.proofs.AllForms.{form_fits}
use Rattle.wt_lex.proofs.Begins.{and_left, and_right}
use Rattle.wt_lex.proofs.TagForms.{OptTag, opening_fits}
use Rattle.wt_expand.specs.PageItems.{items_of_word}
use Rattle.wt_part_laws.specs.Lexer.{lexer}
use Rattle.wt_part_laws.specs.Scans.{skipped_by, AtStarts}
use Rattle.wt_typed_blocks.proofs.Forms.{begins_not, comment_not}
use Rattle.wt_text_edit_laws.specs.TextBetween.{ends_comment, ends_tag, ends_tag_before, ends_before, ends_here, HasEnds}
use Rattle.wt_text_edit_laws.proofs.Between.Fronts.{items_from, byte_from, form_from}
use Rattle.wt_text_edit_laws.proofs.Cuts.ItemCuts.{cut_from}
use Rattle.wt_text_edit_laws.proofs.Cuts.SettledEnds.{line_settled}
use Rattle.wt_text_edit_laws.proofs.Prose.Uncommented.{uncommented_other, either_flag}

-- ---- an opening tag of an extension that nothing closes is characters

record IsNamed (bs : List ℕ) : Type 0 where
  letter : ℕ
  more : List ℕ
  is : bs ≡ letter ∷ more
  is_letter : is_ascii_alphabetic letter ≡ true

opening_not : (x : ℕ) (bs : List ℕ) → is_ascii_alphabetic x ≡ false → opening_tag (60 ∷ x ∷ bs) ≡ None
unfolding opening_tag
opening_not x bs e = rw e refl

opening_none : opening_tag (60 ∷ []) ≡ None
unfolding opening_tag
opening_none = refl

named : (bs : List ℕ) (t : Tag) → opening_tag (60 ∷ bs) ≡ Some t → IsNamed bs
named [] t e = let z : None ≡ Some t = sym opening_none ∙ e in absurd (cc)
named (x ∷ bs) t e = by (is_ascii_alphabetic x) refl
  where
    by : (v : Bool) → is_ascii_alphabetic x ≡ v → IsNamed (x ∷ bs)
    by true f = record { letter = x; more = bs; is = refl; is_letter = f }
    by false f = let z : None ≡ Some t = sym (opening_not x bs f) ∙ e in absurd (cc)

closing_not : (x : ℕ) (bs : List ℕ) → x ≢ 47 → closing_tag (60 ∷ x ∷ bs) ≡ None
unfolding closing_tag
closing_not x bs h = rw (begins_not (codes "</") (60 ∷ x ∷ bs) 1 (omega arith) h) refl

letter_not : (x c : ℕ) → is_ascii_alphabetic x ≡ true → is_ascii_alphabetic c ≡ false → x ≢ c
letter_not x c e f g = let z : true ≡ false = sym e ∙ ap is_ascii_alphabetic g ∙ f in cc

raw_is : (name : List ℕ) (word : List ℕ) → bytes_eq name word ≡ true → is_raw_name word ≡ false → is_raw_name name ≡ false
raw_is name word e f = ap is_raw_name ((bytes_eq-Decides name word).0 e) ∙ f

no_noinclude : is_raw_name (codes "noinclude") ≡ false
unfolding is_extension
no_noinclude = refl

no_onlyinclude : is_raw_name (codes "onlyinclude") ≡ false
unfolding is_extension
no_onlyinclude = refl

-- a tag of an extension isn't an include tag
raw_not_left : (name : List ℕ) → is_raw_name name ≡ true → is_left_out Page name ≡ false
raw_not_left name e = by (is_noinclude name) (is_onlyinclude name) refl refl
  where
    by : (u v : Bool) → is_noinclude name ≡ u → is_onlyinclude name ≡ v → (u || v) ≡ false
    by false false f g = refl
    by true v f g = let z : true ≡ false = sym e ∙ raw_is name (codes "noinclude") f no_noinclude in absurd (cc)
    by false true f g = let z : true ≡ false = sym e ∙ raw_is name (codes "onlyinclude") g no_onlyinclude in absurd (cc)

raw_byte : (x : ℕ) (bs : List ℕ) (t : Tag) → is_ascii_alphabetic x ≡ true → opening_tag (60 ∷ x ∷ bs) ≡ Some t → is_raw_name t.name ≡ true
    → hides Page t.name ≡ false → with_inside t (60 ∷ x ∷ bs) ≡ None → form_at Page false (60 ∷ x ∷ bs) ≡ None
unfolding form_at raw_len include_at entity_at named_entity entity_names decimal_entity hex_entity sign_word
raw_byte x bs t letter e raw hidden inside =
    let left : is_left_out Page t.name ≡ false = raw_not_left t.name raw in
    rw (comment_not x bs (letter_not x 33 letter refl), e, closing_not x bs (letter_not x 47 letter refl), raw, inside, hidden, left) refl

no_form : (a : Bool) (bs : List ℕ) (t : Tag) → opening_tag (60 ∷ bs) ≡ Some t → is_raw_name t.name ≡ true → hides Page t.name ≡ false
    → with_inside t (60 ∷ bs) ≡ None → form_at Page a (60 ∷ bs) ≡ None
no_form a bs t e raw hidden inside =
    let n = named bs t e in
    let P : List ℕ → Type 0 = λ (cs : List ℕ). opening_tag (60 ∷ cs) ≡ Some t → with_inside t (60 ∷ cs) ≡ None → form_at Page a (60 ∷ cs) ≡ None in
    subst P (sym n.is) (λ f g.
    either_flag Page a (60 ∷ n.letter ∷ n.more)
    (uncommented_other 60 (n.letter ∷ n.more) refl (comment_not n.letter n.more (letter_not n.letter 33 n.is_letter refl)))
    ∙ raw_byte n.letter n.more t n.is_letter f raw hidden g) e inside

-- ---- where no character is a `<`, each tag that begins ends

abbrev pub NoLess : List Item → Type 0
NoLess [] = Unit {0}
NoLess (x ∷ xs) = (sign x ≢ 60) × NoLess xs

pub less_both : (xs ys : List Item) → NoLess xs → NoLess ys → NoLess (xs ++ ys)
less_both [] ys h g = g
less_both (x ∷ xs) ys h g = (h.0, less_both xs ys h.1 g)

less_back : (xs ys : List Item) → NoLess (xs ++ ys) → NoLess ys
less_back [] ys h = h
less_back (x ∷ xs) ys h = less_back xs ys h.1

other_byte : (b : ℕ) (bs : List ℕ) → b ≢ 60 → ends_tag (opening_tag (b ∷ bs)) (b ∷ bs) ≡ true
other_byte b bs h = by (opening_tag (b ∷ bs)) (opening_fits (b ∷ bs))
  where
    by : (o : Option Tag) → OptTag (b ∷ bs) o → ends_tag o (b ∷ bs) ≡ true
    by None f = refl
    by (Some t) f = absurd (h f.first)

both : (u v : Bool) → u ≡ true → v ≡ true → (u && v) ≡ true
both true v e f = f
both false v e f = e

-- where a form begins, a tag that does has its inside there
form_ends : (a : Bool) (b : ℕ) (bs : List ℕ) (w : Word) → form_at Page a (b ∷ bs) ≡ Some w → ends_tag_before [] (opening_tag (b ∷ bs)) (b ∷ bs) ≡ true
    → ends_tag (opening_tag (b ∷ bs)) (b ∷ bs) ≡ true
form_ends a b bs w f h = by (opening_tag (b ∷ bs)) refl (opening_fits (b ∷ bs)) h
  where
    not_hidden : (u v : Bool) → (not u && v) ≡ true → u ≡ false
    not_hidden true v e = absurd (cc)
    not_hidden false v e = refl

    first_so : (u v : Bool) → v ≡ false → (u || v) ≡ true → u ≡ true
    first_so true v e g = refl
    first_so false v e g = let z : true ≡ false = sym g ∙ e in absurd (cc)

    no_inside : (t : Tag) → opening_tag (b ∷ bs) ≡ Some t → b ≡ 60 → is_raw_name t.name ≡ true → hides Page t.name ≡ false → with_inside t (b ∷ bs) ≡ None → ⊥
    no_inside t e first raw hidden inside =
        let P : ℕ → Type 0 = λ (c : ℕ). opening_tag (c ∷ bs) ≡ Some t → with_inside t (c ∷ bs) ≡ None → form_at Page a (c ∷ bs) ≡ None in
        let none : form_at Page a (b ∷ bs) ≡ None = subst P (sym first) (λ g i. no_form a bs t g raw hidden i) e inside in
        let z : None ≡ Some w = sym none ∙ f in
        cc

    inside_so : (t : Tag) (o : Option ℕ) (rest : Bool) → opening_tag (b ∷ bs) ≡ Some t → b ≡ 60 → with_inside t (b ∷ bs) ≡ o
        → (is_raw_name t.name || hides Page t.name) ≡ true → (is_some o || (not (hides Page t.name) && rest)) ≡ true → is_some o ≡ true
    inside_so t (Some n) rest e first inside named g = refl
    inside_so t None rest e first inside named g =
        let hidden : hides Page t.name ≡ false = not_hidden (hides Page t.name) rest g in
        absurd (no_inside t e first (first_so (is_raw_name t.name) (hides Page t.name) hidden named) hidden inside)

    by_name : (t : Tag) (v : Bool) → opening_tag (b ∷ bs) ≡ Some t → b ≡ 60 → (is_raw_name t.name || hides Page t.name) ≡ v
        → (if v then is_some (with_inside t (b ∷ bs)) || (not (hides Page t.name) && not (is_some (with_inside t ((b ∷ bs) ++ [])))) else true) ≡ true
        → (if v then is_some (with_inside t (b ∷ bs)) else true) ≡ true
    by_name t false e first named g = refl
    by_name t true e first named g = inside_so t (with_inside t (b ∷ bs)) (not (is_some (with_inside t ((b ∷ bs) ++ [])))) e first refl named g

    by : (o : Option Tag) → opening_tag (b ∷ bs) ≡ o → OptTag (b ∷ bs) o → ends_tag_before [] o (b ∷ bs) ≡ true → ends_tag o (b ∷ bs) ≡ true
    by None e fits g = refl
    by (Some t) e fits g = by_name t (is_raw_name t.name || hides Page t.name) e fits.first refl g

abbrev Ended : Bool → ℕ → List ℕ → Type 0
Ended a n bs = AtStarts (lexer Page) (λ after here. ends_before [] here ≡ true) a n bs

abbrev EndsAll : Bool → ℕ → List ℕ → Type 0
EndsAll a n bs = AtStarts (lexer Page) (λ after here. ends_here here ≡ true) a n bs

abbrev Goes : Bool → List ℕ → Type 0
Goes a bs = (n : ℕ) → Ended a n bs → NoLess (items_from a n bs) → EndsAll a n bs

each_by : (a : Bool) (b : ℕ) (bs : List ℕ) (o : Option Word) → form_at Page a (b ∷ bs) ≡ o → Ended a 0 (b ∷ bs) → NoLess (items_from a 0 (b ∷ bs))
    → Goes (is_break b) bs → EndsAll a 0 (b ∷ bs)
each_by a b bs None f h u go =
    let v : NoLess (char None b ∷ items_from (is_break b) 0 bs) = subst NoLess (byte_from a b bs f) u in
    let none : skipped_by (lexer Page) (form_at Page a (b ∷ bs)) ≡ 0 = ap (skipped_by (lexer Page)) f in (
      both (ends_comment (b ∷ bs)) (ends_tag (opening_tag (b ∷ bs)) (b ∷ bs)) (and_left (ends_comment (b ∷ bs)) (ends_tag_before [] (opening_tag (b ∷ bs)) (b ∷ bs)) h.0)
          (other_byte b bs v.0),
      subst (λ (n : ℕ). EndsAll (is_break b) n bs) (sym none) (go 0 (subst (λ (n : ℕ). Ended (is_break b) n bs) none h.1) v.1),
    )
each_by a b bs (Some (kind, zero)) f h u go = let fits = form_fits Page a (b ∷ bs) (kind, zero) f in absurd (omega (arith, fits.some))
each_by a b bs (Some (kind, suc j)) f h u go =
    let word : List Item = items_of_word kind (b ∷ take j bs) in
    let v : NoLess (items_from (is_break b) j bs) = less_back word (items_from (is_break b) j bs) (subst NoLess (form_from a b bs kind j f) u) in
    let one : suc j - 1 ≡ j = omega arith in
    let size : skipped_by (lexer Page) (form_at Page a (b ∷ bs)) ≡ j = ap (skipped_by (lexer Page)) f ∙ one in (
      both (ends_comment (b ∷ bs)) (ends_tag (opening_tag (b ∷ bs)) (b ∷ bs)) (and_left (ends_comment (b ∷ bs)) (ends_tag_before [] (opening_tag (b ∷ bs)) (b ∷ bs)) h.0)
          (form_ends a b bs (kind, suc j) f (and_right (ends_comment (b ∷ bs)) (ends_tag_before [] (opening_tag (b ∷ bs)) (b ∷ bs)) h.0)),
      subst (λ (n : ℕ). EndsAll (is_break b) n bs) (sym size) (go j (subst (λ (n : ℕ). Ended (is_break b) n bs) size h.1) v),
    )

each : (a : Bool) (n : ℕ) (bs : List ℕ) → Ended a n bs → NoLess (items_from a n bs) → EndsAll a n bs
each a n [] h u = h
each a (suc n) (b ∷ bs) h u = each (is_break b) n bs h u
each a zero (b ∷ bs) h u = each_by a b bs (form_at Page a (b ∷ bs)) refl h u (λ n. each (is_break b) n bs)

-- what is read before a line break, behind a sign
pub rest_ends : (q : List ℕ) (ys : List Item) → items_from false 0 (q ++ 10 ∷ []) ≡ ys ++ char None 10 ∷ [] → sources ys ≡ q → NoLess ys → HasEnds (q ++ 10 ∷ [])
rest_ends q ys e is u =
    let c = cut_from false q (10 ∷ []) ys (char None 10 ∷ []) e is in
    let less : NoLess (ys ++ char None 10 ∷ []) = less_both ys (char None 10 ∷ []) u ((λ z. omega (arith, z)), tt) in
    each false 0 (q ++ 10 ∷ []) (line_settled q (c.settles (inr refl))) (subst NoLess (sym e) less)
