-- What is done where a part of a call begins or ends.
use Rattle.std.proofs.Common.{◌≡◌, ℕ, zero, suc, ◌+◌, ◌-◌, ◌<◌, ◌≤◌, Bool, Option, Some, None, option_map, List, [], ◌∷◌, ◌++◌, length, map, drop, refl, sym, ap, ◌∙◌, subst, arith, append_assoc, append-nil}
use Rattle.std.specs.Prelude.{min, ◌^◌}
use Rattle.std.proofs.Math.Nat.{min-eq_left}
use Rattle.std.specs.Prelude.{slice_get, String, string_bytes}
use Rattle.std.proofs.lemmas.List.{drop_all, length-map}
use Rattle.std.proofs.lemmas.Option.{slice_get-map}
use Rattle.wt_span.specs.declared.form.LexKind.TheVariants as lex
use Rattle.wt_span.specs.declared.form.Piece.{Piece}
use Rattle.wt_span.specs.Items.{items}
use Rattle.wt_span.specs.Braces.{Member, lexeme, PartAt}
use Rattle.wt_names.specs.declared.title.Title.{Title}
use Rattle.wt_braces.specs.declared.call.PartAt.{PartAt as PartOf}
use Rattle.wt_braces.specs.PartMembers.{PartMembers, joined, placed, width_of, name_end}
use Rattle.wt_braces.specs.Views.{part_of}
use Rattle.wt_expand.specs.Texts.{name_text}
use Rattle.wt_expand.specs.Expansion.{Output, Reading, PartOutput, Frame, just, values_from}
use Rattle.wt_expand.specs.Expansion as outputs
use Rattle.wt_transclusion.specs.declared.handing.Handed.{Handed}
use Rattle.wt_transclusion.specs.Cursors.{starts}
use Rattle.wt_values.specs.Frames.{AreValues}
use Rattle.wt_transclusion.specs.Parts.{part_given, parts_given, start_after}
use Rattle.wt_transclusion.specs.Steps.{IsStretchOf, given_from}
use Rattle.wt_transclusion.specs.Stretch.{AllFull}
use Rattle.wt_transclusion.proofs.PartLaws.{outs, outs_append}
use Rattle.wt_transclusion.proofs.StretchLaws.{full_front, full_back, width_append}
use Rattle.wt_template_stack.specs.declared.level.PendingCall.{PendingCall}
use Rattle.wt_template_stack.specs.declared.level.Level.{Level}
use Rattle.wt_template_stack.specs.declared.level.Task.{Task}
use Rattle.wt_template_stack.specs.declared.level.Task.TheVariants as task
use Rattle.wt_template_stack.specs.declared.run.TextRun.{TextRun}
use Rattle.wt_template_stack.specs.declared.run.StepOutcome.{StepOutcome}
use Rattle.wt_template_stack.specs.declared.run.StepOutcome.TheVariants as turn
use Rattle.wt_template_stack.specs.Accounts.{Account}
use Rattle.wt_template_stack.specs.Calls.{IsPartAt, next_place, ArePartsAt, HaveBars, IsBefore}
use Rattle.wt_template_stack.specs.Levels.{IsNamedBy, Resumes, Ends}
use Rattle.wt_template_stack.specs.Rests.{with_work, after_page, after_values, next_number, after_name}
use Rattle.wt_template_stack.specs.Stacks.{stack}
use Rattle.std.specs.declared.alloc.Global.{Global}
use Rattle.wt_template_stack.specs.Runs.{HasEnded, BeginsLevel, HandsParts, Calls, Spends, TakesPart, TakesTurn}
use Rattle.wt_template_stack.proofs.CallLaws.{ends_before, joined_width, later_bars, some_is}
use Rattle.wt_template_stack.proofs.RestLaws.{spends_none, values_first}
use Rattle.wt_template_stack.proofs.StepLaws.{out, drop_none, joined_append}

-- ---- the parts of a call

no_parts : (at : ℕ) (ps : List PartMembers) → [] ≡ placed at ps → ps ≡ []
no_parts at [] e = refl
no_parts at (p ∷ ps) e = absurd cc

pub parts_end : (r : Reading) (t : List ℕ) (run : TextRun) (h : PendingCall) (total : Account) → HandsParts r t run h total → length h.call.parts.now ≤ h.part
    → Calls r t run h total
parts_end r t run h total w l =
    let none = no_parts w.at w.ps (sym (drop_all h.part (map part_of h.call.parts.now) (let z = length-map h.call.parts.now part_of in omega (arith, z, l)))
    ∙ w.pending.parts) in
    record {
      place = w.place;
      at_start = w.at_start;
      running = w.running;
      before = w.within;
      frame = w.frame;
      values = w.pending.values;
      resumes = subst (λ o. Resumes r t h.call.at.end (starts t h.call.at.end) o (stack run.levels) total)
          (ap (λ ps. after_values r h.at_start h.title w.frame h.handed.number (parts_given r (starts t w.at) t w.at ps)) none
          ∙ ap (λ vs. after_page h.at_start (r.template h.title vs)) (append-nil w.frame)) w.resumes;
    }

-- ---- a part begins

equals_gone : (r : Reading) (s : Bool) (t : List ℕ) (at n : ℕ) (xs value : List Member) → AllFull (xs ++ lexeme (lex.Equals, n) ∷ value)
    → (given_from r s t at (xs ++ lexeme (lex.Equals, n) ∷ value)).work
    ≡ (given_from r s t at xs).work ++ (given_from r (starts t (at + width_of xs + n)) t (at + width_of xs + n) value).work
equals_gone r s t at n xs value f =
    let sign = lexeme (lex.Equals, n) in
    let e = at + width_of xs in
    let a = start_after s t at xs in
    let one : given_from r a t e (sign ∷ value) ≡ outputs.joined (outs r a t e (sign ∷ []) ++ outs r (starts t (e + (n + 0))) t (e + (n + 0)) value) =
    ap outputs.joined (outs_append r a t e (sign ∷ []) value ((full_back xs (sign ∷ value) f).0, tt)) in
    let z : e + (n + 0) ≡ e + n = omega arith in
    ap (λ os. (outputs.joined os).work) (outs_append r s t at xs (sign ∷ value) (full_front xs (sign ∷ value) f))
    ∙ ap (λ o. o.work) (joined_append (outs r s t at xs) (outs r a t e (sign ∷ value)))
    ∙ ap (λ o. (given_from r s t at xs).work ++ o.work) one
    ∙ ap (λ q. (given_from r s t at xs).work ++ (given_from r (starts t q) t q value).work) z

values_named : (r : Reading) (s : Bool) (title : Title) (frame : Frame) (n : ℕ) (name value all : Output) (later : List PartOutput)
    → all.work ≡ name.work ++ value.work
    → after_values r s title frame n (record { name = Some name; value = value; all = all } ∷ later) ≡ after_name r s title frame n value later name
values_named r s title frame n name value all later e =
    let x = after_values r s title (frame ++ values_from n (record { name = Some name; value = value; all = value } ∷ [])) n later in
    values_first r s title frame n (record { name = Some name; value = value; all = all }) later
    ∙ ap (λ es. with_work es x) e ∙ ap (out x.items) (append_assoc name.work value.work x.work)

-- the next part of a call is begun
abbrev pub next_handing : PendingCall → PendingCall
next_handing h = record { call = h.call; at_start = h.at_start; title = h.title; part = h.part + 1; handed = h.handed }

-- a part stands next of a call whose earlier parts have these values
record PartThere (r : Reading) (t : List ℕ) (h : PendingCall) (ls : List Level) (frame : Frame) (at : ℕ) (total : Account) (p : PartMembers)
    (rest : List PartMembers) (part : PartOf) : Type 0 where
  values : AreValues h.handed.values frame
  places : drop (h.part + 1) (map part_of h.call.parts.now) ≡ placed (next_place at p) rest
  first : IsPartAt r.mode t h.call.at.end at p
  others : ArePartsAt r.mode t h.call.at.end (next_place at p) rest
  bars : HaveBars (p ∷ rest)
  fits : h.call.at.end ≤ length t
  from_is : part.at.start ≡ at
  to_is : part.at.end ≡ at + width_of (joined p.name p.value)
  equals_is : part.equals ≡ name_end at p.name
  numbered : h.handed.number ≤ h.part
  resumes : Resumes r t h.call.at.end (starts t h.call.at.end) (after_values r h.at_start h.title frame h.handed.number
      (part_given r (starts t at) t at p.name p.value ∷ parts_given r (starts t (next_place at p)) t (next_place at p) rest)) ls total

pub record LevelThere (r : Reading) (t : List ℕ) (at to : ℕ) (k : Task) (ls : List Level) (total : Account) : Type 0 where
  pub left : List Member
  pub stretch : IsStretchOf r.mode t at to left
  pub ends : Ends r t to k ls (given_from r (starts t at) t at left) total

named_there : (r : Reading) (t : List ℕ) (h : PendingCall) (ls : List Level) (frame : Frame) (at : ℕ) (total : Account) (nm : Option (List Member × ℕ))
    (value : List Member)
    (bar : ℕ) (rest : List PartMembers) (part : PartOf) (equals : ℕ)
    → PartThere r t h ls frame at total (record { name = nm; value = value; bar = bar }) rest part
    → part.equals ≡ Some equals → LevelThere r t at equals (task.Name (next_handing h) part.at.end) ls total
named_there r t h ls frame at total None value bar rest part equals w e = absurd (let z : None ≡ Some equals = sym w.equals_is ∙ e in cc)
named_there r t h ls frame at total (Some (xs, n)) value bar rest part equals w e =
    let p : PartMembers = record { name = Some (xs, n); value = value; bar = bar } in
    let next = next_place at p in
    let later = parts_given r (starts t next) t next rest in
    let cut = w.first.cut in
    let one = cut.0 in
    let is : at + width_of xs ≡ equals = some_is (at + width_of xs) equals (sym w.equals_is ∙ e) in
    let behind : at + width_of xs + n ≡ equals + 1 = omega (arith, is, one) in
    let wide = width_append xs (lexeme (lex.Equals, n) ∷ value) in
    let ti = w.to_is in
    let en = w.first.ends in
    let to : at + width_of xs + n + width_of value ≡ part.at.end = omega (arith, wide, ti) in
    let name = given_from r (starts t at) t at xs in
    let q = at + width_of xs + n in
    let gives = values_named r h.at_start h.title frame h.handed.number name (given_from r (starts t q) t q value)
    (given_from r (starts t at) t at (joined (Some (xs, n)) value)) later
    (equals_gone r (starts t at) t at n xs value w.first.all.full)
    ∙ ap (λ k. after_name r h.at_start h.title frame h.handed.number (given_from r (starts t k) t k value) later name) behind in
    record {
      left = xs;
      stretch = subst (λ k. IsStretchOf r.mode t at k xs) is cut.1;
      ends = record {
        frame = frame;
        value = value;
        at = next;
        ps = rest;
        pending = record { values = w.values; parts = w.places; stand = w.others; bars = later_bars p rest w.bars; fits = w.fits };
        value_ends = sym to ∙ ap (λ k. k + width_of value) behind;
        numbered = let y = w.numbered in omega (arith, y);
        stretch = subst (λ k. IsStretchOf r.mode t k part.at.end value) behind (subst (λ k. IsStretchOf r.mode t q k value) to cut.2);
        before = subst (λ e. IsBefore e next rest) (sym ti) (ends_before at p rest w.bars);
        within = omega (arith, ti, en);
        gives = subst (λ o. Resumes r t h.call.at.end (starts t h.call.at.end) o ls total) gives w.resumes;
      };
    }

unnamed_there : (r : Reading) (t : List ℕ) (h : PendingCall) (ls : List Level) (frame : Frame) (at : ℕ) (total : Account) (nm : Option (List Member × ℕ))
    (value : List Member)
    (bar : ℕ) (rest : List PartMembers) (part : PartOf) → PartThere r t h ls frame at total (record { name = nm; value = value; bar = bar }) rest part
    → part.equals ≡ None → LevelThere r t at part.at.end (task.Value (next_handing h) None) ls total
unnamed_there r t h ls frame at total (Some (xs, n)) value bar rest part w e = absurd (let z : Some (at + width_of xs) ≡ None = sym w.equals_is ∙ e in cc)
unnamed_there r t h ls frame at total None value bar rest part w e =
    let p : PartMembers = record { name = None; value = value; bar = bar } in
    let next = next_place at p in
    let later = parts_given r (starts t next) t next rest in
    let ti = w.to_is in
    let en = w.first.ends in
    let o = given_from r (starts t at) t at value in
    record {
      left = value;
      stretch = subst (λ k. IsStretchOf r.mode t at k value) (sym ti) w.first.all;
      ends = record {
        frame = frame;
        given = None;
        at = next;
        ps = rest;
        pending = record { values = w.values; parts = w.places; stand = w.others; bars = later_bars p rest w.bars; fits = w.fits };
        named = tt;
        numbered = let y = w.numbered in omega (arith, y);
        before = subst (λ e. IsBefore e next rest) (sym ti) (ends_before at p rest w.bars);
        within = omega (arith, ti, en);
        gives = subst (λ x. Resumes r t h.call.at.end (starts t h.call.at.end) x ls total)
            (values_first r h.at_start h.title frame h.handed.number (record { name = None; value = o; all = o }) later) w.resumes;
      };
    }

drop_get : {A : Type 0} → (xs : List A) (n : ℕ) (x : A) → slice_get xs n ≡ Some x → drop n xs ≡ x ∷ drop (n + 1) xs
drop_get [] n x e = absurd (let z : None ≡ Some x = e in cc)
drop_get (y ∷ xs) zero x e = ap (λ z. z ∷ xs) (some_is y x e) ∙ ap (λ zs. x ∷ zs) (sym (drop_none xs))
drop_get (y ∷ xs) (suc n) x e = drop_get xs n x e ∙ ap (λ k. x ∷ drop k (y ∷ xs)) (let z : suc (n + 1) ≡ suc n + 1 = omega arith in z)

place_is : (a b : PartAt) (xs ys : List PartAt) → a ∷ xs ≡ b ∷ ys → (a ≡ b) × (xs ≡ ys)
place_is a b xs ys e = (cc, cc)

pub record HasPart (r : Reading) (t : List ℕ) (run : TextRun) (h : PendingCall) (total : Account) (w : HandsParts r t run h total) (part : PartOf) : Type 0 where
  p : PartMembers
  rest : List PartMembers
  behind : w.place < w.at
  there : PartThere r t h (stack run.levels) w.frame w.at total p rest part

has_part : (r : Reading) (t : List ℕ) (run : TextRun) (h : PendingCall) (total : Account) (w : HandsParts r t run h total) (part : PartOf)
    → slice_get h.call.parts.now h.part ≡ Some part → HasPart r t run h total w part
has_part r t run h total w part e = by_parts w.ps w.pending.parts w.pending.stand w.pending.bars w.before w.resumes
  where
    listed_parts : drop h.part (map part_of h.call.parts.now) ≡ part_of part ∷ drop (h.part + 1) (map part_of h.call.parts.now)
    listed_parts = drop_get (map part_of h.call.parts.now) h.part (part_of part) (slice_get-map part_of h.call.parts.now h.part ∙ ap (option_map part_of) e)

    by_parts : (ps : List PartMembers) → drop h.part (map part_of h.call.parts.now) ≡ placed w.at ps → ArePartsAt r.mode t h.call.at.end w.at ps
        → HaveBars ps → IsBefore w.place w.at ps → Resumes r t h.call.at.end (starts t h.call.at.end)
        (after_values r h.at_start h.title w.frame h.handed.number (parts_given r (starts t w.at) t w.at ps)) (stack run.levels) total
        → HasPart r t run h total w part
    by_parts [] places stand bars behind resumes = absurd (let z : part_of part ∷ drop (h.part + 1) (map part_of h.call.parts.now) ≡ [] = sym listed_parts ∙ places in cc)
    by_parts (p ∷ rest) places stand bars behind resumes =
        let same = place_is (part_of part) _ (drop (h.part + 1) (map part_of h.call.parts.now)) _ (sym listed_parts ∙ places) in
        let wide = joined_width w.at p.name p.value in
        record {
          p = p;
          rest = rest;
          behind = behind;
          there = record {
            values = w.pending.values;
            places = same.1 ∙ ap (λ q. placed (q + p.bar) rest) wide;
            first = stand.0;
            others = stand.1;
            bars = bars;
            fits = w.pending.fits;
            from_is = ap (λ x. x.from) same.0;
            to_is = ap (λ x. x.to) same.0 ∙ wide;
            equals_is = ap (λ x. x.equals_at) same.0;
            numbered = w.numbered;
            resumes = resumes;
          };
        }

begins_there : (r : Reading) (t : List ℕ) (run : TextRun) (h : PendingCall) (total : Account) (w : HandsParts r t run h total) (start to : ℕ) (k : Task)
    → start ≡ w.at → w.place < w.at
    → LevelThere r t w.at to k (stack run.levels) total → BeginsLevel r t run start (starts t start) to k total
begins_there r t run h total w start to k e low l = record {
  place = w.place;
  at_start = w.at_start;
  running = w.running;
  before = omega (arith, low, e);
  some = let y = w.within in let z = w.pending.fits in omega (arith, y, z);
  left = l.left;
  stretch = subst (λ q. IsStretchOf r.mode t q to l.left) (sym e) l.stretch;
  ends = subst (λ q. Ends r t to k (stack run.levels) (given_from r (starts t q) t q l.left) total) (sym e) l.ends;
}

-- a part that has a name
pub name_begins : (r : Reading) (t : List ℕ) (run : TextRun) (h : PendingCall) (part : PartOf) (equals : ℕ) (total : Account) → HandsParts r t run h total
    → slice_get h.call.parts.now h.part ≡ Some part → part.equals ≡ Some equals
    → BeginsLevel r t run part.at.start (starts t part.at.start) equals (task.Name (next_handing h) part.at.end) total
name_begins r t run h part equals total w e q =
    let x = has_part r t run h total w part e in
    begins_there r t run h total w part.at.start equals (task.Name (next_handing h) part.at.end) x.there.from_is x.behind
    (named_there r t h (stack run.levels) w.frame w.at total x.p.name x.p.value x.p.bar x.rest part equals x.there q)

-- a part without a name
pub value_begins : (r : Reading) (t : List ℕ) (run : TextRun) (h : PendingCall) (part : PartOf) (total : Account) → HandsParts r t run h total
    → slice_get h.call.parts.now h.part ≡ Some part → part.equals ≡ None
    → BeginsLevel r t run part.at.start (starts t part.at.start) part.at.end (task.Value (next_handing h) None) total
value_begins r t run h part total w e q =
    let x = has_part r t run h total w part e in
    begins_there r t run h total w part.at.start part.at.end (task.Value (next_handing h) None) x.there.from_is x.behind
    (unnamed_there r t h (stack run.levels) w.frame w.at total x.p.name x.p.value x.p.bar x.rest part x.there q)

-- ---- a name or a value ends

pub name_ends : (r : Reading) (t : List ℕ) (run : TextRun) (h : PendingCall) (to : ℕ) (out_ps : List Piece) (name : String Global) (total : Account)
    → (w : HasEnded r t run (task.Name h to) out_ps total) → string_bytes name ≡ name_text (items out_ps)
    → BeginsLevel r t run (w.place + 1) (starts t (w.place + 1)) to (task.Value h (Some name)) total
name_ends r t run h to out_ps name total w e = record {
  place = w.place;
  at_start = w.at_start;
  running = w.running;
  before = omega arith;
  some = let z = w.ends.value_ends in let y = w.ends.within in let x = w.ends.pending.fits in omega (arith, z, y, x);
  left = w.ends.value;
  stretch = w.ends.stretch;
  ends = record {
    frame = w.ends.frame;
    given = Some (just (items out_ps));
    at = w.ends.at;
    ps = w.ends.ps;
    pending = w.ends.pending;
    named = e;
    numbered = w.ends.numbered;
    before = w.ends.before;
    within = w.ends.within;
    gives = w.ends.gives;
  };
}

pub name_begun : (r : Reading) (t : List ℕ) (run : TextRun) (h : PendingCall) (to : ℕ) (out_ps : List Piece) (name : String Global) (at : ℕ) (total : Account)
    → (w : HasEnded r t run (task.Name h to) out_ps total) → string_bytes name ≡ name_text (items out_ps) → to < 2 ^ 32
    → at ≡ min (run.reader.cursor.at + 1) (2 ^ 32 - 1) → BeginsLevel r t run at (starts t at) to (task.Value h (Some name)) total
name_begun r t run h to out_ps name at total w e few is =
    let here = w.running.reading.at.at_is in
    let wide = w.ends.value_ends in
    let next : at ≡ w.place + 1 = is ∙ min-eq_left (omega (arith, here, wide, few)) ∙ ap (λ k. k + 1) here in
    subst (λ k. BeginsLevel r t run k (starts t k) to (task.Value h (Some name)) total) (sym next)
    (name_ends r t run h to out_ps name total w e)

next_within : (n part : ℕ) (o : Option Output) → n < part → next_number n o ≤ part
next_within n part None l = omega arith
next_within n part (Some o) l = omega arith

-- the values with one more
abbrev pub handing_with : PendingCall → Handed → PendingCall
handing_with h handed = record { call = h.call; at_start = h.at_start; title = h.title; part = h.part; handed = handed }

pub value_ends : (r : Reading) (t : List ℕ) (run : TextRun) (h : PendingCall) (handed : Handed) (name : Option (String Global)) (out_ps : List Piece)
    (total : Account)
    → HasEnded r t run (task.Value h name) out_ps total
    → ((frame : Frame) (named : Option Output) (given : Output) → AreValues h.handed.values frame → IsNamedBy name named → items out_ps ≡ given.items
    → AreValues handed.values (frame ++ values_from h.handed.number (record { name = named; value = given; all = given } ∷ [])))
    → ((named : Option Output) → IsNamedBy name named → h.handed.number + 1 < 2 ^ 64 → handed.number ≡ next_number h.handed.number named)
    → h.part < 2 ^ 64 → HandsParts r t run (handing_with h handed) total
value_ends r t run h handed name out_ps total w put counted few =
    let v = w.ends in
    let low = v.numbered in
    let number_is = counted v.given v.named (omega (arith, low, few)) in
    let o = just (items out_ps) in
    let frame = v.frame ++ values_from h.handed.number (record { name = v.given; value = o; all = o } ∷ []) in
    record {
      place = w.place;
      at_start = w.at_start;
      running = w.running;
      frame = frame;
      at = v.at;
      ps = v.ps;
      before = v.before;
      within = v.within;
      pending = record { values = put v.frame v.given o v.pending.values v.named refl; parts = v.pending.parts; stand = v.pending.stand; bars = v.pending.bars; fits = v.pending.fits };
      numbered = subst (λ n. n ≤ h.part) (sym number_is) (next_within h.handed.number h.part v.given low);
      resumes = subst (λ n. Resumes r t h.call.at.end (starts t h.call.at.end)
          (after_values r h.at_start h.title frame n (parts_given r (starts t v.at) t v.at v.ps)) (stack run.levels) total)
          (sym number_is) v.gives;
    }

-- a part that is begun, or a page that is called, with nothing spent
pub part_taken : (r : Reading) (t : List ℕ) (spent : ℕ) (total : Account) (run : TextRun) (k : StepOutcome) → TakesPart r t total run k
    → TakesTurn r t spent total run spent k
part_taken r t spent total run turn.Went h = (total, spends_none spent total, h)
part_taken r t spent total run (turn.Done ps) h = absurd h
part_taken r t spent total run (turn.Called a) h = (total, spends_none spent total, h)

-- the same behind some work
pub part_taken_behind : (r : Reading) (t : List ℕ) (spent now : ℕ) (total left : Account) (run : TextRun) (k : StepOutcome) → Spends spent total now left
    → TakesPart r t left run k
    → TakesTurn r t spent total run now k
part_taken_behind r t spent now total left run turn.Went s h = (left, s, h)
part_taken_behind r t spent now total left run (turn.Done ps) s h = absurd h
part_taken_behind r t spent now total left run (turn.Called a) s h = (left, s, h)
