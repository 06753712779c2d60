-- Calls of devices, one after the other.
use Rattle.std.proofs.Common.{arith, ◌≡◌, ◌↔◌, ℕ, ◌+◌, ◌≤◌, List, [], ◌++◌, length, take, drop, Option, Some, None, sym, ap, ap₂, ◌∙◌, subst, append-nil, length-append, length-take-le}
use Rattle.std.proofs.lemmas.List.{take-append-drop}
use Rattle.std.proofs.Math.Seq.{take-add, take-append_seam, drop-append_seam}
use Rattle.std.specs.Io.KnownBytes.{Appends, IsAtEnd, Keeps}
use Rattle.std.proofs.KnownBytes.{Appends-trans}
use Rattle.wt_devices.specs.Device.{Rose}
use Rattle.wt_html_in.specs.Feeding.{IsFed}
use Rattle.wt_html_in.specs.declared.reader.Reader.{Reader}
use Rattle.wt_commands.specs.Devices.{FailedAfter, SinkUse, Took, Untouched}
use Rattle.wt_commands.specs.Inputs.{FedSoFar, FedWhole, GivesAtMost}
use Rattle.wt_span.specs.declared.limits.TheConstants.{HTML_BYTES}
use Rattle.wt_call_laws.specs.Uses.{both, Meet}

-- ---- sinks

pub took_both : (a b : SinkUse) → (front rest : List ℕ) → Meet a b → Took a front → Took b rest → Took (both a b) (front ++ rest)
took_both a b front rest m f g = record {
  taken = Appends-trans a.taken_before a.taken_after b.taken_after front rest f.taken
      (subst (λ (o : Option (List ℕ)). Appends o b.taken_after rest) (sym m.taken) g.taken);
  count = g.count ∙ sym m.count ∙ f.count;
}

take_on : (n : ℕ) (front rest : List ℕ) → take (length front + n) (front ++ rest) ≡ front ++ take n rest
take_on n front rest =
    take-add (length front) n (front ++ rest)
    ∙ ap₂ (λ (x y : List ℕ). x ++ y) (take-append_seam front rest) (ap (take n) (drop-append_seam front rest))

pub failed_both : (a b : SinkUse) → (front rest : List ℕ) → Meet a b → Took a front → FailedAfter b rest → FailedAfter (both a b) (front ++ rest)
failed_both a b front rest m f g = record {
  taken = (
    length front + g.taken.0,
    subst (Appends a.taken_before b.taken_after) (sym (take_on g.taken.0 front rest))
        (Appends-trans a.taken_before a.taken_after b.taken_after front (take g.taken.0 rest) f.taken
        (subst (λ (o : Option (List ℕ)). Appends o b.taken_after (take g.taken.0 rest)) (sym m.taken) g.taken.1)),
  );
  count = subst (λ (n : ℕ). Rose n b.faults_after) (sym m.count ∙ f.count) g.count;
}

kept_none : (o p : Option (List ℕ)) → Keeps o p → Appends o p []
kept_none None p h = tt
kept_none (Some xs) None h = h
kept_none (Some xs) (Some ys) h = h ∙ sym (append-nil xs)

none_kept : (o p : Option (List ℕ)) → Appends o p [] → Keeps o p
none_kept None p h = tt
none_kept (Some xs) None h = h
none_kept (Some xs) (Some ys) h = h ∙ append-nil xs

pub untouched_is : (a : SinkUse) → (Untouched a) ↔ (Took a [])
untouched_is a = (
  λ u. record { taken = kept_none a.taken_before a.taken_after u.taken; count = u.count },
  λ t. record { taken = none_kept a.taken_before a.taken_after t.taken; count = t.count },
)

-- ---- inputs

pub gives_front : (most : ℕ) → (old new : List ℕ) → (GivesAtMost most (Some old) (Some new)) ↔ ((n : ℕ) × (n ≤ most) × (n ≤ length old) × (new ≡ drop n old))
gives_front most old new = (
  λ g. let e : old ≡ g.0 ++ new = g.1 in let l = length-append g.0 new in let k = ap length e in
      (length g.0, g.2, omega (arith, l, k), sym (ap (drop (length g.0)) e ∙ drop-append_seam g.0 new)),
  λ h. (
    take h.0 old,
    sym (take-append-drop h.0 old) ∙ ap (λ (l : List ℕ). take h.0 old ++ l) (sym h.3),
    (let l = length-take-le h.0 old h.2 in let m = h.1 in omega (arith, l, m)),
  ),
)

pub fed_all : (reader : Reader) → (all : List ℕ) → (new : Option (List ℕ)) → FedWhole reader (Some all) new → IsFed reader all × (length all ≤ HTML_BYTES) × IsAtEnd new
fed_all reader all new w = (
  subst (IsFed reader) (sym w.whole) w.fed,
  (let s = ap length w.whole in let l = w.within in omega (arith, s, l)),
  w.ended,
)

pub fed_so_far : (reader : Reader) → (all left : List ℕ) → (taken : ℕ) → FedSoFar reader (Some all) (Some left) taken → taken ≤ HTML_BYTES → left ≡ []
    → FedWhole reader (Some all) (Some left)
fed_so_far reader all left taken f h e = record {
  bytes = f.bytes;
  fed = f.fed;
  within = (let c = f.count in omega (arith, c, h));
  whole = f.given ∙ ap (λ (l : List ℕ). f.bytes ++ l) e ∙ append-nil f.bytes;
  ended = e;
}
