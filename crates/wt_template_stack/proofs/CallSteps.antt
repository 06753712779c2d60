-- What is done where the name of an argument or the target of a call ends.
use Rattle.std.proofs.Common.{◌≡◌, ℕ, ◌+◌, ◌-◌, ◌<◌, ◌≤◌, Bool, false, Option, Some, None, option_map, List, [], ◌∷◌, ◌++◌, length, map, take, drop, refl, sym, ap, ◌∙◌, subst, arith, append_assoc}
use Rattle.std.specs.Prelude.{codes, slice_get, slice_range}
use Rattle.std.proofs.lemmas.List.{drop-drop, take-take, drop-take, length-take-le, length-drop}
use Rattle.std.proofs.lemmas.Option.{slice_get-map}
use Rattle.wt_span.specs.declared.form.Piece.{Piece}
use Rattle.wt_span.specs.Items.{Item, sources, items}
use Rattle.wt_span.specs.Braces.{width_of_all}
use Rattle.wt_names.specs.declared.title.Title.{Title}
use Rattle.wt_braces.specs.declared.call.PartAt.{PartAt as PartOf}
use Rattle.wt_braces.specs.PartMembers.{PartMembers, part_members, placed}
use Rattle.wt_braces.specs.Views.{part_of}
use Rattle.wt_braces.proofs.Rejoins.{parts_join}
use Rattle.wt_expand.specs.Texts.{name_text}
use Rattle.wt_expand.specs.Targets.{title_of_target}
use Rattle.wt_expand.specs.Work.{begun, ended}
use Rattle.wt_expand.specs.Expansion.{Output, Reading, PartOutput, Frame, just, then_output, chars, value_of, default_output, if_value, with_break, later_parts, front_braces, back_braces}
use Rattle.wt_transclusion.specs.declared.read.Braces.{Braces}
use Rattle.wt_transclusion.specs.Cursors.{starts}
use Rattle.wt_values.specs.Frames.{AreValues}
use Rattle.wt_transclusion.specs.Parts.{parts_given}
use Rattle.wt_transclusion.specs.Steps.{IsStretchOf, given_from}
use Rattle.wt_template_stack.specs.declared.level.PendingCall.{PendingCall}
use Rattle.wt_template_stack.specs.declared.level.Task.TheVariants as task
use Rattle.wt_template_stack.specs.declared.run.TextRun.{TextRun}
use Rattle.wt_template_stack.specs.Accounts.{Account, Does}
use Rattle.wt_template_stack.specs.Calls.{next_place, ArePartsAt, HaveBars, IsBefore, IsCallOf, source_of, parts_of_call, members_behind, first_end, behind_given}
use Rattle.wt_template_stack.specs.Levels.{Resumes}
use Rattle.wt_template_stack.specs.Readers.{CanBeCut, IsReading}
use Rattle.wt_template_stack.specs.Rests.{with_work, ended_with, after_argument, after_page, after_values, after_target_by}
use Rattle.wt_template_stack.specs.Stacks.{stack, whole_level}
use Rattle.wt_template_stack.specs.Runs.{IsRunning, HasEnded, Returns, BeginsLevel, HandsParts}
use Rattle.wt_template_stack.proofs.CallLaws.{behind_same, behind_stands, call_bars, earlier, empty_stretch, ends_before, joined_width, later_bars, no_second, second_of}
use Rattle.wt_template_stack.proofs.Cuts.{back_cut, cut_here, cut_there, front_cut}
use Rattle.wt_template_stack.proofs.LevelLaws.{strip}
use Rattle.wt_template_stack.proofs.StepLaws.{out, first_part, nothing_behind}

-- ---- an argument

argument_with : (frame : Frame) (later : List PartOutput) (xs : List Item) (v : Option (List Item)) → value_of (name_text xs) frame ≡ v
    → after_argument frame later (just xs) ≡ ended_with (if_value v (default_output (just xs) later))
argument_with frame later xs v e = ap (λ o. ended_with (if_value o (default_output (just xs) later))) e

first_before : (r : Reading) (t : List ℕ) (b : Braces) → (c : IsCallOf r.mode t b) → first_end (c.at + c.braces) (part_members 0 c.inside) < b.at.end
first_before r t b c = before (part_members 0 c.inside) c.parts_stand
  where
    before : (ps : List PartMembers) → ArePartsAt r.mode t b.at.end (c.at + c.braces) ps → first_end (c.at + c.braces) ps < b.at.end
    before [] h = let z = c.end_is in let two = c.two in omega (arith, z, two)
    before (p ∷ ps) h = h.0.ends

-- what the call of an argument gives
pub argument_returns : (r : Reading) (t : List ℕ) (run : TextRun) (b : Braces) (out_ps ps : List Piece) (v : Option (List Item)) (total : Account)
    → (h : HasEnded r t run (task.Argument b) out_ps total) → value_of (name_text (items out_ps)) r.frame ≡ v
    → if_value v (default_output (just (items out_ps)) (later_parts (parts_of_call r t b h.ends.call))) ≡ just (items ps)
    → Returns r t run b.at.end (ended_with (just (items ps))) total
argument_returns r t run b out_ps ps v total h e f = record {
  place = h.place;
  at_start = h.at_start;
  running = h.running;
  before = let z = h.ends.end_is in let y = first_before r t b h.ends.call in omega (arith, z, y);
  resumes = subst (λ o. Resumes r t b.at.end (starts t b.at.end) o (stack run.levels) total)
      (argument_with r.frame (later_parts (parts_of_call r t b h.ends.call)) (items out_ps) v e ∙ ap ended_with f) h.ends.gives;
}

pub part_get : (r : Reading) (t : List ℕ) (b : Braces) → (c : IsCallOf r.mode t b) → (n : ℕ) (x : Option PartOf) → slice_get b.parts.now n ≡ x
    → slice_get (placed (c.at + c.braces) (part_members 0 c.inside)) n ≡ option_map part_of x
part_get r t b c n x e = ap (λ ps. slice_get ps n) (sym c.parts_are) ∙ slice_get-map part_of b.parts.now n ∙ ap (option_map part_of) e

pub value_returns : (r : Reading) (t : List ℕ) (run : TextRun) (b : Braces) (out_ps ps : List Piece) (total : Account)
    → HasEnded r t run (task.Argument b) out_ps total
    → value_of (name_text (items out_ps)) r.frame ≡ Some (items ps) → Returns r t run b.at.end (ended_with (just (items ps))) total
value_returns r t run b out_ps ps total h e = argument_returns r t run b out_ps ps (Some (items ps)) total h e refl

pub spelled_returns : (r : Reading) (t : List ℕ) (run : TextRun) (b : Braces) (out_ps ps : List Piece) (total : Account)
    → HasEnded r t run (task.Argument b) out_ps total
    → value_of (name_text (items out_ps)) r.frame ≡ None → slice_get b.parts.now 1 ≡ None
    → items ps ≡ chars (codes "{{{") ++ (items out_ps ++ chars (codes "}}}")) → Returns r t run b.at.end (ended_with (just (items ps))) total
spelled_returns r t run b out_ps ps total h e f is =
    let c = h.ends.call in
    let none = no_second r t (c.at + c.braces) false (part_members 0 c.inside) (part_get r t b c 1 None f) in
    argument_returns r t run b out_ps ps None total h e (ap (default_output (just (items out_ps))) none ∙ ap just (sym is))

pub default_begins : (r : Reading) (t : List ℕ) (run : TextRun) (b : Braces) (out_ps : List Piece) (part : PartOf) (total : Account)
    → HasEnded r t run (task.Argument b) out_ps total → value_of (name_text (items out_ps)) r.frame ≡ None → slice_get b.parts.now 1 ≡ Some part
    → BeginsLevel r t run part.at.start (starts t part.at.start) part.at.end (task.Default b) total
default_begins r t run b out_ps part total h e f =
    let c = h.ends.call in
    let x = second_of r t b.at.end (c.at + c.braces) false (part_members 0 c.inside) (part_of part) (part_get r t b c 1 (Some part) f) c.parts_stand
    (call_bars r.mode t b c) in
    let later = later_parts (parts_of_call r t b c) in
    let same : after_argument r.frame later (just (items out_ps)) ≡ ended_with (given_from r (starts t part.at.start) t part.at.start x.left) =
    argument_with r.frame later (items out_ps) None e ∙ ap (λ ps. ended_with (default_output (just (items out_ps)) ps)) x.later_is ∙ ap ended_with x.gives in
    record {
      place = h.place;
      at_start = h.at_start;
      running = h.running;
      before = let z = h.ends.end_is in let y = x.behind in omega (arith, z, y);
      some = let z = h.ends.end_is in let y = first_before r t b c in let fits = c.fits in omega (arith, z, y, fits);
      left = x.left;
      stretch = x.stretch;
      ends = (x.within, subst (λ o. Resumes r t b.at.end (starts t b.at.end) o (stack run.levels) total) same h.ends.gives);
    }

pub default_returns : (r : Reading) (t : List ℕ) (run : TextRun) (b : Braces) (ps : List Piece) (total : Account)
    → (h : HasEnded r t run (task.Default b) ps total)
    → Returns r t run b.at.end (ended_with (just (items ps))) total
default_returns r t run b ps total h = record { place = h.place; at_start = h.at_start; running = h.running; before = h.ends.0; resumes = h.ends.1 }

-- ---- a call ends

pub call_ends : (r : Reading) (t : List ℕ) (run : TextRun) (to : ℕ) (xs : List Item) (total : Account) → (h : Returns r t run to (ended_with (just xs)) total)
    → (left : Account) × Does (ended (length (sources xs)) ∷ []) total left × Returns r t run to (just xs) left
call_ends r t run to xs total h =
    let z = strip r t to (starts t to) (ended (length (sources xs)) ∷ []) (just xs) (stack run.levels) total h.resumes in
    (z.0, z.1, record { place = h.place; at_start = h.at_start; running = h.running; before = h.before; resumes = z.2 })

-- a page gives its pieces, with a line break before them where one is wanted
pub page_returns : (r : Reading) (t : List ℕ) (run : TextRun) (to : ℕ) (s : Bool) (given ps : List Piece) (total : Account)
    → Returns r t run to (after_page s (just (items given))) total → items ps ≡ with_break s (items given)
    → Returns r t run to (ended_with (just (items ps))) total
page_returns r t run to s given ps total h e = record {
  place = h.place;
  at_start = h.at_start;
  running = h.running;
  before = h.before;
  resumes = subst (λ (xs : List Item). Resumes r t to (starts t to) (ended_with (just xs)) (stack run.levels) total) (sym e) h.resumes;
}

-- ---- a call that is text

target_text_is : (o : Option Title) (r : Reading) (s : Bool) (k : ℕ) (source : List ℕ) (later : List PartOutput) (behind : Output) (xs : List Item) → o ≡ None
    → after_target_by o r s k source later behind (just xs)
    ≡ then_output (just (chars (front_braces k source))) (then_output (just xs) (then_output behind (just (chars (back_braces k source)))))
target_text_is o r s k source later behind xs e = ap (λ p. after_target_by p r s k source later behind (just xs)) e

text_joined : (a xs z : List Item) (behind : Output)
    → then_output (just a) (then_output (just xs) (then_output behind (just z))) ≡ then_output (then_output (just (a ++ xs)) behind) (just z)
text_joined a xs z behind =
    ap (λ ys. out ys (behind.work ++ [])) (sym (append_assoc a xs (behind.items ++ z)) ∙ sym (append_assoc (a ++ xs) behind.items z))

pub text_begins : (r : Reading) (t : List ℕ) (run : TextRun) (b : Braces) (s : Bool) (out_ps ps : List Piece) (part : PartOf) (front : List ℕ) (end : ℕ)
    (total : Account)
    → (h : HasEnded r t run (task.Target b s) out_ps total) → title_of_target (items out_ps) ≡ None → slice_get b.parts.now 0 ≡ Some part
    → front ≡ slice_range t b.at.start part.at.start → items ps ≡ chars front ++ items out_ps → end ≡ b.at.end - (part.at.start - b.at.start)
    → Resumes r t h.place h.at_start (just []) (record { end = end; out = ps; task = task.Text b } ∷ (stack run.levels)) total
text_begins r t run b s out_ps ps part front end total h none e front_is is end_is =
    let c = h.ends.call in
    let pm = part_members 0 c.inside in
    let k = c.braces in
    let w = width_of_all c.inside in
    let src = source_of r.mode t b c in
    let f = first_part r t b c part e in
    let later = later_parts (parts_of_call r t b c) in
    let behind = behind_given r t b c in
    let xs = chars (front_braces k src) in
    let z = chars (back_braces k src) in
    let place : first_end (c.at + k) pm ≡ h.place = sym h.ends.end_is in
    let fi = f.from_is in
    let si = c.start_is in
    let ei = c.end_is in
    let ends : c.at + k + w ≡ end = omega (arith, fi, si, ei, end_is) in
    let whole = behind_stands r.mode t (c.at + k) (c.at + k + w) pm
    (subst (IsStretchOf r.mode t (c.at + k) (c.at + k + w)) (sym (parts_join 0 c.inside)) c.stretch) in
    let fronts : front ≡ front_braces k src =
    front_is ∙ ap (λ q. take (q - b.at.start) (drop b.at.start t)) fi ∙ ap (λ q. take (c.at + k - q) (drop q t)) si
    ∙ ap (λ n. take n (drop c.at t)) (let y : c.at + k - c.at ≡ k = omega arith in y) ∙ sym (take-take k (k + w + k) (drop c.at t) (omega arith)) in
    let pieces : xs ++ items out_ps ≡ items ps = ap (λ bs. chars bs ++ items out_ps) (sym fronts) ∙ sym is in
    let same = target_text_is (title_of_target (items out_ps)) r s k src later behind (items out_ps) none ∙ text_joined xs (items out_ps) z behind
    ∙ ap (λ ys. then_output (then_output (just ys) behind) (just z)) pieces
    ∙ ap (λ o. then_output (then_output (just (items ps)) o) (just z))
    (behind_same r t (starts t (first_end (c.at + k) pm)) h.at_start (first_end (c.at + k) pm) pm
    ∙ ap (λ q. given_from r h.at_start t q (members_behind pm)) place) in (
      members_behind pm,
      subst (λ q. IsStretchOf r.mode t q end (members_behind pm)) place
          (subst (λ q. IsStretchOf r.mode t (first_end (c.at + k) pm) q (members_behind pm)) ends whole),
      record {
        call = c;
        end_is = omega (arith, ends, ei);
        gives = subst (λ o. Resumes r t b.at.end (starts t b.at.end) o (stack run.levels) total) same h.ends.gives;
      },
    )

-- its braces can be cut out of the text
pub front_there : (r : Reading) (t : List ℕ) (run : TextRun) (b : Braces) (s : Bool) (out_ps : List Piece) (part : PartOf) (total : Account)
    → HasEnded r t run (task.Target b s) out_ps total → slice_get b.parts.now 0 ≡ Some part → CanBeCut run.reader.text.text.now b.at.start part.at.start
front_there r t run b s out_ps part total h e =
    let c = h.ends.call in
    let reading = h.running.reading in
    cut_there r.mode t run.reader h.place h.at_start b.at.start part.at.start reading
    (front_cut r.mode t b part.at.start reading.read.characters c (first_part r t b c part e).from_is)

pub back_there : (r : Reading) (t : List ℕ) (run : TextRun) (b : Braces) (out_ps : List Piece) (total : Account)
    → HasEnded r t run (task.Text b) out_ps total → CanBeCut run.reader.text.text.now run.reader.cursor.at b.at.end
back_there r t run b out_ps total h =
    let reading = h.running.reading in
    cut_here r.mode t run.reader h.place h.at_start b.at.end reading (back_cut r.mode t b h.place reading.read.characters h.ends.call h.ends.end_is)

pub text_returns : (r : Reading) (t : List ℕ) (run : TextRun) (b : Braces) (out_ps ps : List Piece) (back : List ℕ) (total : Account)
    → (h : HasEnded r t run (task.Text b) out_ps total) → back ≡ slice_range t h.place b.at.end → items ps ≡ items out_ps ++ chars back
    → Returns r t run b.at.end (just (items ps)) total
text_returns r t run b out_ps ps back total h e is =
    let c = h.ends.call in
    let fits = c.fits in
    let k = c.braces in
    let w = width_of_all c.inside in
    let src = source_of r.mode t b c in
    let ei = c.end_is in
    let en = h.ends.end_is in
    let at : h.place ≡ c.at + (k + w) = omega (arith, ei, en) in
    let len : b.at.end - h.place ≡ k = omega (arith, en) in
    let backs : back ≡ back_braces k src =
    e ∙ ap (λ n. take n (drop h.place t)) len ∙ ap (λ q. take k (drop q t)) at ∙ back_of k (k + w) c.at t (omega (arith, ei, fits)) in
    record {
      place = h.place;
      at_start = h.at_start;
      running = h.running;
      before = let two = c.two in omega (arith, en, two);
      resumes = subst (λ o. Resumes r t b.at.end (starts t b.at.end) o (stack run.levels) total)
          (ap (λ bs. then_output (just (items out_ps)) (just (chars bs))) (sym backs) ∙ ap just (sym is)) h.ends.gives;
    }
  where
    back_of : (k n at : ℕ) (t : List ℕ) → at + (n + k) ≤ length t
        → take k (drop (at + n) t) ≡ drop (length (take (n + k) (drop at t)) - k) (take (n + k) (drop at t))
    back_of k n at t l =
        let xs = drop at t in
        let d = length-drop at t in
        let len = length-take-le (n + k) xs (omega (arith, d, l)) in
        let z : n ≡ length (take (n + k) xs) - k = omega (arith, len) in
        ap (take k) (sym (drop-drop n at t)) ∙ sym (drop-take n k xs) ∙ ap (λ j. drop j (take (n + k) xs)) z

pub text_back : (r : Reading) (t : List ℕ) (run : TextRun) (b : Braces) (out_ps ps given : List Piece) (back : List ℕ) (total : Account)
    → HasEnded r t run (task.Text b) out_ps total → back ≡ slice_range run.reader.text.text.now run.reader.cursor.at b.at.end
    → items ps ≡ items out_ps ++ chars back → given ≡ ps → Returns r t run b.at.end (just (items given)) total
text_back r t run b out_ps ps given back total h e is same =
    let reading = h.running.reading in
    subst (λ (qs : List Piece). Returns r t run b.at.end (just (items qs)) total) (sym same)
    (text_returns r t run b out_ps ps back total h
    (e ∙ ap (λ xs. slice_range xs run.reader.cursor.at b.at.end) reading.read.text_is ∙ ap (λ q. slice_range t q b.at.end) reading.at.at_is) is)

-- ---- a page is called

next_values : (o : Option Title) (title : Title) (r : Reading) (s : Bool) (k : ℕ) (source : List ℕ) (later : List PartOutput) (behind : Output) (xs : List Item)
    → o ≡ Some title → after_target_by o r s k source later behind (just xs) ≡ with_work (begun ∷ []) (after_values r s title [] 1 later)
next_values o title r s k source later behind xs e = ap (λ p. after_target_by p r s k source later behind (just xs)) e

-- its first parts are left
record Later (r : Reading) (t : List ℕ) (most at : ℕ) (ps : List PartMembers) (e : ℕ) : Type 0 where
  next : ℕ
  parts : List PartMembers
  before : IsBefore e next parts
  places : drop 1 (placed at ps) ≡ placed next parts
  stand : ArePartsAt r.mode t most next parts
  bars : HaveBars parts
  gives : later_parts (parts_given r false t at ps) ≡ parts_given r (starts t next) t next parts

later_of : (r : Reading) (t : List ℕ) (most at : ℕ) (ps : List PartMembers) → ArePartsAt r.mode t most at ps → HaveBars ps → Later r t most at ps (first_end at ps)
later_of r t most at [] h bars = record { next = at; parts = []; before = tt; places = refl; stand = tt; bars = tt; gives = refl }
later_of r t most at (p ∷ ps) h bars = record {
  next = next_place at p;
  parts = ps;
  before = ends_before at p ps bars;
  places = ap (λ q. placed q ps) (ap (λ q. q + p.bar) (joined_width at p.name p.value));
  stand = h.1;
  bars = later_bars p ps bars;
  gives = refl;
}

-- a call of which the target alone is read, with its title
pub record IsFirst (h : PendingCall) (b : Braces) (s : Bool) (title : Title) : Type 0 where
  pub call : h.call ≡ b
  pub at_start : h.at_start ≡ s
  pub title_is : h.title ≡ title
  pub part : h.part ≡ 1
  pub number : h.handed.number ≡ 1
  pub values : AreValues h.handed.values []

-- its first part but for the target stands next
pub first_hands : (r : Reading) (t : List ℕ) (run : TextRun) (b : Braces) (s : Bool) (title : Title) (h : PendingCall) (total : Account) (c : IsCallOf r.mode t b)
    (p : ℕ) (at_start : Bool) → IsRunning r t run p at_start → p ≤ first_end (c.at + c.braces) (part_members 0 c.inside) → IsFirst h b s title
    → Resumes r t b.at.end (starts t b.at.end) (after_values r s title [] 1 (later_parts (parts_of_call r t b c))) (stack run.levels) total
    → HandsParts r t run h total
first_hands r t run b s title h total c p at_start running low f back =
    let at = c.at + c.braces in
    let x = later_of r t b.at.end at (part_members 0 c.inside) c.parts_stand (call_bars r.mode t b c) in
    let there = subst (λ ps. Resumes r t b.at.end (starts t b.at.end) (after_values r s title [] 1 ps) (stack run.levels) total) x.gives back in
    let parts = parts_given r (starts t x.next) t x.next x.parts in
    let named = subst (λ (n : Title). Resumes r t b.at.end (starts t b.at.end) (after_values r s n [] 1 parts) (stack run.levels) total)
    (sym f.title_is) there in
    let begun_at = subst (λ a. Resumes r t b.at.end (starts t b.at.end) (after_values r a h.title [] 1 parts) (stack run.levels) total)
    (sym f.at_start) named in
    let counted = subst (λ n. Resumes r t b.at.end (starts t b.at.end) (after_values r h.at_start h.title [] n parts) (stack run.levels) total)
    (sym f.number) begun_at in
    record {
      place = p;
      at_start = at_start;
      running = running;
      frame = [];
      at = x.next;
      ps = x.parts;
      before = earlier p (first_end at (part_members 0 c.inside)) x.next x.parts low x.before;
      within = subst (λ (k : Braces). p < k.at.end) (sym f.call) (let y = first_before r t b c in omega (arith, y, low));
      pending = record {
        values = f.values;
        parts = ap (λ n. drop n (map part_of h.call.parts.now)) f.part ∙ ap (λ (k : Braces). drop 1 (map part_of k.parts.now)) f.call
            ∙ ap (drop 1) c.parts_are ∙ x.places;
        stand = subst (λ (k : Braces). ArePartsAt r.mode t k.at.end x.next x.parts) (sym f.call) x.stand;
        bars = x.bars;
        fits = subst (λ (k : Braces). k.at.end ≤ length t) (sym f.call) c.fits;
      };
      numbered = let n = f.number in let k = f.part in omega (arith, n, k);
      resumes = subst (λ (k : Braces). Resumes r t k.at.end (starts t k.at.end) (after_values r h.at_start h.title [] h.handed.number parts)
          (stack run.levels) total)
          (sym f.call) counted;
    }

pub page_begins : (r : Reading) (t : List ℕ) (run : TextRun) (b : Braces) (s : Bool) (out_ps : List Piece) (title : Title) (total : Account)
    → HasEnded r t run (task.Target b s) out_ps total → title_of_target (items out_ps) ≡ Some title
    → (left : Account) × Does (begun ∷ []) total left × ((h : PendingCall) → IsFirst h b s title → HandsParts r t run h left)
page_begins r t run b s out_ps title total w e =
    let c = w.ends.call in
    let later = later_parts (parts_of_call r t b c) in
    let z = strip r t b.at.end (starts t b.at.end) (begun ∷ []) (after_values r s title [] 1 later) (stack run.levels) total
    (subst (λ o. Resumes r t b.at.end (starts t b.at.end) o (stack run.levels) total)
    (next_values (title_of_target (items out_ps)) title r s c.braces (source_of r.mode t b c) later (behind_given r t b c) (items out_ps) e) w.ends.gives) in
    let en = w.ends.end_is in (
      z.0,
      z.1,
      λ h f. first_hands r t run b s title h z.0 c w.place w.at_start w.running (omega (arith, en)) f z.2,
    )

-- a call whose target is read already, alone
pub page_alone : (r : Reading) (t : List ℕ) (run : TextRun) (b : Braces) (s : Bool) (title : Title) (h : PendingCall) (c : IsCallOf r.mode t b) (p : ℕ)
    (at_start : Bool) (total : Account)
    → total.left ≡ after_values r s title [] 1 (later_parts (parts_of_call r t b c))
    → IsReading r.mode t run.reader p at_start → run.mode ≡ r.mode → stack run.levels ≡ whole_level b.at.end ∷ []
    → p ≤ first_end (c.at + c.braces) (part_members 0 c.inside) → IsFirst h b s title
    → HandsParts r t run h total
page_alone r t run b s title h c p at_start total left reading m levels low f =
    let o = after_values r s title [] 1 (later_parts (parts_of_call r t b c)) in
    first_hands r t run b s title h total c p at_start (record { reading = reading; mode_is = m }) low f
    (subst (λ ls. Resumes r t b.at.end (starts t b.at.end) o ls total) (sym levels) ([], empty_stretch r.mode t b.at.end, (refl, left ∙ nothing_behind o)))
