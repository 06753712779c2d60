-- The part of a number, with what is told and what is given of it.
use Rattle.std.proofs.Common.{◌≡◌, ℕ, zero, suc, ◌+◌, ◌<◌, ◌≤◌, Bool, false, Option, Some, None, List, [], ◌∷◌, map, drop, refl, sym, ap, ◌∙◌, subst, arith}
use Rattle.std.specs.Prelude.{slice_get, is_some}
use Rattle.std.proofs.lemmas.List.{drop-map}
use Rattle.wt_span.specs.declared.function.Function.{Function}
use Rattle.wt_span.specs.declared.function.Function.TheVariants.{If, IfEq, Switch}
use Rattle.wt_span.specs.declared.form.LexKind.TheVariants as lex
use Rattle.wt_span.specs.Braces.{Member, lexeme, PartAt}
use Rattle.wt_braces.specs.declared.call.PartAt.{PartAt as PartOf}
use Rattle.wt_braces.specs.PartMembers.{PartMembers, joined, part_members, placed, width_of, name_width, name_end as end_of_name}
use Rattle.wt_braces.specs.Views.{part_of}
use Rattle.wt_expand.specs.Asking.{have_names}
use Rattle.wt_expand.specs.Expansion.{Output, Reading, PartOutput, later_parts, told_by, given_by, first_given}
use Rattle.wt_transclusion.specs.declared.read.Braces.{Braces}
use Rattle.wt_transclusion.specs.Cursors.{starts}
use Rattle.wt_transclusion.specs.Parts.{part_given, parts_given}
use Rattle.wt_transclusion.specs.Steps.{IsStretchOf, given_from}
use Rattle.wt_transclusion.proofs.StretchLaws.{width_append}
use Rattle.wt_template_stack.specs.Calls.{HaveBars, IsPartAt, next_place, ArePartsAt, IsCallOf, parts_of_call}
use Rattle.wt_template_stack.specs.Rests.{later_told}
use Rattle.wt_template_stack.specs.ToldParts.{end_by, start_by, name_end, told_end, given_start, have_equals}
use Rattle.wt_template_stack.proofs.CallLaws.{call_bars, some_is, joined_width, later_bars}
use Rattle.wt_template_stack.proofs.CallSteps.{part_get}
use Rattle.wt_template_stack.proofs.StepLaws.{drop_none}

-- ---- lists

pub drop_get : {A : Type 0} → (xs : List A) (n : ℕ) (x : A) → slice_get xs n ≡ Some x → drop n xs ≡ x ∷ drop (suc n) xs
drop_get [] n x e = absurd (let z : None ≡ Some x = e in cc)
drop_get (y ∷ xs) zero x e = ap (λ z. z ∷ xs) (some_is y x e) ∙ ap (λ zs. x ∷ zs) (sym (drop_none xs))
drop_get (y ∷ xs) (suc n) x e = drop_get xs n x e

first_is : {A : Type 0} → (x y : A) (xs ys : List A) → x ∷ xs ≡ y ∷ ys → x ≡ y
first_is x y xs ys e = cc

no_first : {A : Type 0} {B : Type 0} → (x : A) (xs : List A) → x ∷ xs ≡ [] → B
no_first x xs e = absurd cc

pub drop_nil : {A : Type 0} → (n : ℕ) → drop {A = A} n [] ≡ []
drop_nil zero = refl
drop_nil (suc n) = refl

pub drop_more : {A : Type 0} → (n : ℕ) (xs : List A) (y : A) (ys : List A) → drop n xs ≡ y ∷ ys → drop (suc n) xs ≡ ys
drop_more zero [] y ys e = cc
drop_more zero (x ∷ xs) y ys e = let z : xs ≡ ys = cc in drop_none xs ∙ z
drop_more (suc n) [] y ys e = cc
drop_more (suc n) (x ∷ xs) y ys e = drop_more n xs y ys e

-- ---- the part of a number

-- of parts that follow one another from a place on
record PartOfNumber (r : Reading) (t : List ℕ) (most at : ℕ) (ps : List PartMembers) (n : ℕ) (part : PartAt) : Type 0 where
  place : ℕ
  p : PartMembers
  rest : List PartMembers
  behind : at ≤ place
  stands : IsPartAt r.mode t most place p
  from_is : part.from ≡ place
  to_is : part.to ≡ place + width_of (joined p.name p.value)
  equals_is : part.equals_at ≡ end_of_name place p.name
  given : drop n (parts_given r (starts t at) t at ps)
      ≡ part_given r (starts t place) t place p.name p.value ∷ parts_given r (starts t (next_place place p)) t (next_place place p) rest
  others : drop (suc n) (placed at ps) ≡ placed (next_place place p) rest
  bars : HaveBars (p ∷ rest)

places_behind : (at : ℕ) (p : PartMembers) (ps : List PartMembers) → drop 1 (placed at (p ∷ ps)) ≡ placed (next_place at p) ps
places_behind at p ps = drop_none _ ∙ ap (λ q. placed (q + p.bar) ps) (joined_width at p.name p.value)

part_of_number : (r : Reading) (t : List ℕ) (most at : ℕ) (ps : List PartMembers) (n : ℕ) (part : PartAt) → slice_get (placed at ps) n ≡ Some part
    → ArePartsAt r.mode t most at ps → HaveBars ps → PartOfNumber r t most at ps n part
part_of_number r t most at [] n part e h bars = absurd (let z : None ≡ Some part = e in cc)
part_of_number r t most at (p ∷ ps) zero part e h bars =
    let is = some_is _ part e in
    record {
      place = at;
      p = p;
      rest = ps;
      behind = omega arith;
      stands = h.0;
      from_is = ap (λ x. x.from) (sym is);
      to_is = ap (λ x. x.to) (sym is) ∙ joined_width at p.name p.value;
      equals_is = ap (λ x. x.equals_at) (sym is);
      given = refl;
      others = places_behind at p ps;
      bars = bars;
    }
part_of_number r t most at (p ∷ ps) (suc n) part e h bars =
    let next = next_place at p in
    let same : placed (at + width_of (joined p.name p.value) + p.bar) ps ≡ drop 1 (placed at (p ∷ ps)) = sym (places_behind at p ps) in
    let there : slice_get (placed next ps) n ≡ Some part = ap (λ xs. slice_get xs n) (same ∙ drop_none _) ∙ e in
    let z = part_of_number r t most next ps n part there h.1 (later_bars p ps bars) in
    record {
      place = z.place;
      p = z.p;
      rest = z.rest;
      behind = let y = z.behind in omega (arith, y);
      stands = z.stands;
      from_is = z.from_is;
      to_is = z.to_is;
      equals_is = z.equals_is;
      given = z.given;
      others = ap (drop (suc n)) (sym (drop_none _) ∙ places_behind at p ps) ∙ z.others;
      bars = z.bars;
    }

-- a part of a call behind its target
pub record LaterPart (r : Reading) (t : List ℕ) (b : Braces) (c : IsCallOf r.mode t b) (n : ℕ) (part : PartOf) : Type 0 where
  pub place : ℕ
  pub p : PartMembers
  pub others : List PartOutput
  pub behind : c.at < place
  pub stands : IsPartAt r.mode t b.at.end place p
  pub from_is : part.at.start ≡ place
  pub to_is : part.at.end ≡ place + width_of (joined p.name p.value)
  pub equals_is : part.equals ≡ end_of_name place p.name
  pub given : drop (suc n) (parts_of_call r t b c) ≡ part_given r (starts t place) t place p.name p.value ∷ others
  pub next : (x : PartOf) → slice_get b.parts.now (suc (suc n)) ≡ Some x → part.at.end < x.at.start

-- a part before another one has a `|` behind it
bar_there : (q : ℕ) (p : PartMembers) (ps : List PartMembers) (x : PartAt) (xs : List PartAt) → placed q ps ≡ x ∷ xs → HaveBars (p ∷ ps) → 1 ≤ p.bar
bar_there q p [] x xs e bars = no_first x xs (sym e)
bar_there q p (r ∷ ps) x xs e bars = bars.0

-- places that begin behind one
first_place : (q : ℕ) (ps : List PartMembers) (x : PartAt) (xs : List PartAt) → placed q ps ≡ x ∷ xs → x.from ≡ q
first_place q [] x xs e = no_first x xs (sym e)
first_place q (p ∷ ps) x xs e = ap (λ y. y.from) (sym (first_is _ x _ xs e))

pub later_part : (r : Reading) (t : List ℕ) (b : Braces) (c : IsCallOf r.mode t b) (n : ℕ) (part : PartOf) → slice_get b.parts.now (suc n) ≡ Some part
    → LaterPart r t b c n part
later_part r t b c n part e = by_parts (part_members 0 c.inside) (part_get r t b c (suc n) (Some part) e) (λ x. part_get r t b c (suc (suc n)) (Some x)) c.parts_stand
    (call_bars r.mode t b c) refl
  where
    by_parts : (pm : List PartMembers) → slice_get (placed (c.at + c.braces) pm) (suc n) ≡ Some (part_of part)
        → ((x : PartOf) → slice_get b.parts.now (suc (suc n)) ≡ Some x → slice_get (placed (c.at + c.braces) pm) (suc (suc n)) ≡ Some (part_of x))
        → ArePartsAt r.mode t b.at.end (c.at + c.braces) pm → HaveBars pm → parts_given r false t (c.at + c.braces) pm ≡ parts_of_call r t b c → LaterPart r t b c n part
    by_parts [] there more stand bars gives = absurd (let z : None ≡ Some (part_of part) = there in cc)
    by_parts (p ∷ ps) there more stand bars gives =
        let at = c.at + c.braces in
        let next = next_place at p in
        let z = part_of_number r t b.at.end next ps n (part_of part) (ap (λ xs. slice_get xs n) (sym (places_behind at p ps) ∙ drop_none _) ∙ there) stand.1
        (later_bars p ps bars) in
        let behind = z.behind in
        let two = c.two in
        let to = z.to_is in
        record {
          place = z.place;
          p = z.p;
          others = parts_given r (starts t (next_place z.place z.p)) t (next_place z.place z.p) z.rest;
          behind = omega (arith, behind, two);
          stands = z.stands;
          from_is = z.from_is;
          to_is = to;
          equals_is = z.equals_is;
          given = ap (drop (suc n)) (sym gives) ∙ z.given;
          next = λ x f.
              let d : drop (suc n) (placed next ps) ≡ part_of x ∷ drop (suc (suc n)) (placed next ps) =
              drop_get (placed next ps) (suc n) (part_of x) (ap (λ xs. slice_get xs (suc n)) (sym (places_behind at p ps) ∙ drop_none _) ∙ more x f) in
              let q = first_place (next_place z.place z.p) z.rest (part_of x) (drop (suc (suc n)) (placed next ps)) (sym z.others ∙ d) in
              let one = bar_there (next_place z.place z.p) z.p z.rest (part_of x) (drop (suc (suc n)) (placed next ps)) (sym z.others ∙ d) z.bars in
              omega (arith, to, q, one);
        }

-- ---- what is told and given of it

-- between two places stands what gives this
pub record StretchGives (r : Reading) (t : List ℕ) (at to : ℕ) (o : Output) : Type 0 where
  pub left : List Member
  pub stretch : IsStretchOf r.mode t at to left
  pub gives : o ≡ given_from r (starts t at) t at left

-- the place of a part, and the numbers that its call has of it
record IsPlaced (r : Reading) (t : List ℕ) (most place : ℕ) (name : Option (List Member × ℕ)) (value : List Member) (part : PartOf) : Type 0 where
  bar : ℕ
  stands : IsPartAt r.mode t most place (record { name = name; value = value; bar = bar })
  from_is : part.at.start ≡ place
  to_is : part.at.end ≡ place + width_of (joined name value)
  equals_is : part.equals ≡ end_of_name place name

all_gives : (r : Reading) (t : List ℕ) (most place : ℕ) (name : Option (List Member × ℕ)) (value : List Member) (part : PartOf)
    → IsPlaced r t most place name value part
    → StretchGives r t part.at.start part.at.end (part_given r (starts t place) t place name value).all
all_gives r t most place name value part h = record {
  left = joined name value;
  stretch = subst (λ k. IsStretchOf r.mode t k part.at.end (joined name value)) (sym h.from_is)
      (subst (λ k. IsStretchOf r.mode t place k (joined name value)) (sym h.to_is) h.stands.all);
  gives = by name value ∙ ap (λ k. given_from r (starts t k) t k (joined name value)) (sym h.from_is);
}
  where
    by : (nm : Option (List Member × ℕ)) (v : List Member) → (part_given r (starts t place) t place nm v).all ≡ given_from r (starts t place) t place (joined nm v)
    by None v = refl
    by (Some x) v = refl

abbrev pub told_part : Function → PartOutput → Output
told_part f p = told_by f p.name p.all

-- the name or all
told_gives : (f : Function) (r : Reading) (t : List ℕ) (most place : ℕ) (name : Option (List Member × ℕ)) (value : List Member) (part : PartOf)
    → IsPlaced r t most place name value part
    → StretchGives r t part.at.start (told_end f part) (told_part f (part_given r (starts t place) t place name value))
told_gives If r t most place name value part h = all_gives r t most place name value part h
told_gives IfEq r t most place name value part h = all_gives r t most place name value part h
told_gives Switch r t most place None value part h =
    subst (λ e. StretchGives r t part.at.start (end_by e part.at.end) (given_from r (starts t place) t place value)) (sym h.equals_is)
    (all_gives r t most place None value part h)
told_gives Switch r t most place (Some (xs, n)) value part h =
    let o = given_from r (starts t place) t place xs in
    subst (λ e. StretchGives r t part.at.start (end_by e part.at.end) o) (sym h.equals_is) (subst (λ k. StretchGives r t k (place + width_of xs) o) (sym h.from_is)
    (record { left = xs; stretch = h.stands.cut.1; gives = refl }))

-- the value or all
given_gives : (f : Function) (r : Reading) (t : List ℕ) (most place : ℕ) (name : Option (List Member × ℕ)) (value : List Member) (part : PartOf)
    → IsPlaced r t most place name value part
    → StretchGives r t (given_start f part) part.at.end (given_by f (part_given r (starts t place) t place name value))
given_gives If r t most place name value part h = all_gives r t most place name value part h
given_gives IfEq r t most place name value part h = all_gives r t most place name value part h
given_gives Switch r t most place None value part h =
    subst (λ e. StretchGives r t (start_by e part.at.start) part.at.end (given_from r (starts t place) t place value)) (sym h.equals_is)
    (all_gives r t most place None value part h)
given_gives Switch r t most place (Some (xs, n)) value part h =
    let q = place + width_of xs + n in
    let o = given_from r (starts t q) t q value in
    let one = h.stands.cut.0 in
    let wide = width_append xs (lexeme (lex.Equals, n) ∷ value) in
    let to = h.to_is in
    let ends : q + width_of value ≡ part.at.end = omega (arith, wide, to) in
    let behind : q ≡ place + width_of xs + 1 = omega (arith, one) in
    subst (λ e. StretchGives r t (start_by e part.at.start) part.at.end o) (sym h.equals_is) (subst (λ k. StretchGives r t k part.at.end o) behind
    (record { left = value; stretch = subst (λ k. IsStretchOf r.mode t q k value) ends h.stands.cut.2; gives = refl }))

-- of a part without a name what is told is given
whole_told : (f : Function) (r : Reading) (t : List ℕ) (most place : ℕ) (name : Option (List Member × ℕ)) (value : List Member) (part : PartOf)
    → IsPlaced r t most place name value part → name_end f part.equals ≡ None
    → given_by f (part_given r (starts t place) t place name value) ≡ told_part f (part_given r (starts t place) t place name value)
whole_told If r t most place name value part h e = refl
whole_told IfEq r t most place name value part h e = refl
whole_told Switch r t most place None value part h e = refl
whole_told Switch r t most place (Some (xs, n)) value part h e = absurd (let z : Some (place + width_of xs) ≡ None = sym h.equals_is ∙ e in cc)

-- what is told ends within the part, and what is given begins within it
ends_within : (f : Function) (r : Reading) (t : List ℕ) (most place : ℕ) (name : Option (List Member × ℕ)) (value : List Member) (part : PartOf)
    → IsPlaced r t most place name value part → told_end f part ≤ part.at.end
ends_within If r t most place name value part h = omega arith
ends_within IfEq r t most place name value part h = omega arith
ends_within Switch r t most place None value part h = subst (λ e. end_by e part.at.end ≤ part.at.end) (sym h.equals_is) (omega arith)
ends_within Switch r t most place (Some (xs, n)) value part h =
    let wide = width_append xs (lexeme (lex.Equals, n) ∷ value) in
    let to = h.to_is in
    subst (λ e. end_by e part.at.end ≤ part.at.end) (sym h.equals_is) (omega (arith, wide, to))

begins_within : (f : Function) (r : Reading) (t : List ℕ) (most place : ℕ) (name : Option (List Member × ℕ)) (value : List Member) (part : PartOf)
    → IsPlaced r t most place name value part → place ≤ given_start f part
begins_within If r t most place name value part h = let z = h.from_is in omega (arith, z)
begins_within IfEq r t most place name value part h = let z = h.from_is in omega (arith, z)
begins_within Switch r t most place None value part h =
    let z = h.from_is in subst (λ e. place ≤ start_by e part.at.start) (sym h.equals_is) (omega (arith, z))
begins_within Switch r t most place (Some (xs, n)) value part h = subst (λ e. place ≤ start_by e part.at.start) (sym h.equals_is) (omega arith)

-- what is told of a later part
pub record Told (f : Function) (r : Reading) (t : List ℕ) (b : Braces) (c : IsCallOf r.mode t b) (n : ℕ) (part : PartOf) : Type 0 where
  pub output : Output
  pub others : List Output
  pub stretch : StretchGives r t part.at.start (told_end f part) output
  pub outputs_are : drop n (later_told f (parts_of_call r t b c)) ≡ output ∷ others
  pub whole : name_end f part.equals ≡ None → first_given f (drop (suc n) (parts_of_call r t b c)) ≡ output
  pub within : told_end f part < b.at.end
  pub next : (x : PartOf) → slice_get b.parts.now (suc (suc n)) ≡ Some x → told_end f part < x.at.start

drop_later : (n : ℕ) (ps : List PartOutput) → drop n (later_parts ps) ≡ drop (suc n) ps
drop_later n [] = drop_nil n
drop_later n (p ∷ ps) = refl

pub part_told : (f : Function) (r : Reading) (t : List ℕ) (b : Braces) (c : IsCallOf r.mode t b) (n : ℕ) (part : PartOf)
    → slice_get b.parts.now (suc n) ≡ Some part → Told f r t b c n part
part_told f r t b c n part e =
    let x = later_part r t b c n part e in
    let ps = parts_of_call r t b c in
    let at : IsPlaced r t b.at.end x.place x.p.name x.p.value part = record { bar = x.p.bar; stands = x.stands; from_is = x.from_is; to_is = x.to_is; equals_is = x.equals_is } in
    let w = ends_within f r t b.at.end x.place x.p.name x.p.value part at in
    let most = x.stands.ends in
    let to = x.to_is in
    record {
      output = told_part f (part_given r (starts t x.place) t x.place x.p.name x.p.value);
      others = map (told_part f) x.others;
      stretch = told_gives f r t b.at.end x.place x.p.name x.p.value part at;
      outputs_are = drop-map (told_part f) n (later_parts ps) ∙ ap (map (told_part f)) (drop_later n ps ∙ x.given);
      whole = λ no_name. ap (first_given f) x.given ∙ whole_told f r t b.at.end x.place x.p.name x.p.value part at no_name;
      within = omega (arith, w, most, to);
      next = λ y f. let z = x.next y f in omega (arith, z, w);
    }

-- what is given of a later part
pub record Given (f : Function) (r : Reading) (t : List ℕ) (b : Braces) (c : IsCallOf r.mode t b) (n : ℕ) (part : PartOf) : Type 0 where
  pub output : Output
  pub stretch : StretchGives r t (given_start f part) part.at.end output
  pub output_is : first_given f (drop (suc n) (parts_of_call r t b c)) ≡ output
  pub behind : c.at < given_start f part
  pub within : part.at.end < b.at.end

pub part_of_value : (f : Function) (r : Reading) (t : List ℕ) (b : Braces) (c : IsCallOf r.mode t b) (n : ℕ) (part : PartOf)
    → slice_get b.parts.now (suc n) ≡ Some part → Given f r t b c n part
part_of_value f r t b c n part e =
    let x = later_part r t b c n part e in
    let at : IsPlaced r t b.at.end x.place x.p.name x.p.value part = record { bar = x.p.bar; stands = x.stands; from_is = x.from_is; to_is = x.to_is; equals_is = x.equals_is } in
    let w = begins_within f r t b.at.end x.place x.p.name x.p.value part at in
    let low = x.behind in
    let most = x.stands.ends in
    let to = x.to_is in
    record {
      output = given_by f (part_given r (starts t x.place) t x.place x.p.name x.p.value);
      stretch = given_gives f r t b.at.end x.place x.p.name x.p.value part at;
      output_is = ap (first_given f) x.given;
      behind = omega (arith, w, low);
      within = omega (arith, most, to);
    }

-- ---- which parts have a name

name_same : (r : Reading) (s : Bool) (t : List ℕ) (at : ℕ) (name : Option (List Member × ℕ)) (value : List Member)
    → is_some (end_of_name at name) ≡ is_some (part_given r s t at name value).name
name_same r s t at None value = refl
name_same r s t at (Some x) value = refl

names_placed : (r : Reading) (s : Bool) (t : List ℕ) (at : ℕ) (ps : List PartMembers)
    → map (λ (x : PartAt). is_some x.equals_at) (placed at ps) ≡ map (λ (p : PartOutput). is_some p.name) (parts_given r s t at ps)
names_placed r s t at [] = refl
names_placed r s t at (p ∷ ps) =
    let next = next_place at p in
    let later = map (λ (x : PartAt). is_some x.equals_at) (placed (at + (name_width p.name + width_of p.value) + p.bar) ps) in
    ap (λ b. b ∷ later) (name_same r s t at p.name p.value)
    ∙ ap (λ bs. is_some (part_given r s t at p.name p.value).name ∷ bs)
    (ap (λ q. map (λ (x : PartAt). is_some x.equals_at) (placed (q + p.bar) ps)) (joined_width at p.name p.value) ∙ names_placed r (starts t next) t next ps)

pub have_names_is : (r : Reading) (t : List ℕ) (b : Braces) → (c : IsCallOf r.mode t b) → have_equals b.parts.now ≡ have_names (parts_of_call r t b c)
have_names_is r t b c =
    map_map part_of (λ (x : PartAt). is_some x.equals_at) (drop 1 b.parts.now)
    ∙ ap (map (λ (x : PartAt). is_some x.equals_at)) (sym (drop-map part_of 1 b.parts.now) ∙ ap (drop 1) c.parts_are)
    ∙ by_parts (part_members 0 c.inside)
  where
    map_map : {A B C : Type 0} → (f : A → B) (g : B → C) (xs : List A) → map (λ x. g (f x)) xs ≡ map g (map f xs)
    map_map f g [] = refl
    map_map f g (x ∷ xs) = ap (λ ys. g (f x) ∷ ys) (map_map f g xs)

    by_parts : (pm : List PartMembers) → map (λ (x : PartAt). is_some x.equals_at) (drop 1 (placed (c.at + c.braces) pm))
        ≡ have_names (parts_given r false t (c.at + c.braces) pm)
    by_parts [] = refl
    by_parts (p ∷ ps) =
        let next = next_place (c.at + c.braces) p in
        ap (map (λ (x : PartAt). is_some x.equals_at)) (places_behind (c.at + c.braces) p ps) ∙ names_placed r (starts t next) t next ps
