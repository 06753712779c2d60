-- Rows by the number of tables that are open at each.
use Rattle.std.proofs.Common.{◌≡◌, ◌<◌, ℕ, zero, suc, ◌+◌, ◌-◌, false, List, [], ◌∷◌, ◌++◌, length, take, refl, sym, ap, ◌∙◌, subst, ◌⊎◌, inl, inr, arith}
use Rattle.std.specs.Prelude.{map}
use Rattle.wt_lines.specs.declared.kind.LineKind.{LineKind}
use Rattle.wt_lines.specs.declared.kind.LineKind.TheVariants as line
use Rattle.wt_tables.specs.Extents.{is_open, is_end, behind}
use Rattle.wt_tables.specs.Parts.{taken_len}
use Rattle.wt_tables.proofs.Ends.{depth_len}
use Rattle.wt_page.specs.Rows.{Row, kind_of}
use Rattle.wt_part_laws.specs.Counts.{opened, ended}
use Rattle.wt_part_laws.specs.Units.{IsUnit}
use Rattle.wt_part_laws.proofs.Counting.{one, opened_put, ended_put}

-- ---- kinds that open a table, that end one, and others

pub record IsOther (k : LineKind) : Type 0 where
  pub opens : is_open k ≡ false
  pub ends : is_end k ≡ false
  pub alone : (n : ℕ) → taken_len k n ≡ 0
  pub stays : (n : ℕ) → behind n k ≡ n
  pub further : (ks : List LineKind) (d : ℕ) → depth_len (k ∷ ks) d ≡ suc (depth_len ks d)
  pub no_end : k ≡ line.TableEnd → ⊥

abbrev pub Sort : LineKind → Type 0
Sort k = (k ≡ line.TableOpen) ⊎ ((k ≡ line.TableEnd) ⊎ IsOther k)

pub sort : (k : LineKind) → Sort k
sort line.Blank = inr (inr (record { opens = refl; ends = refl; alone = λ n. refl; stays = λ n. refl; further = λ ks d. refl; no_end = λ e. absurd cc }))
sort line.TableOpen = inl refl
sort line.TableEnd = inr (inl refl)
sort line.Caption = inr (inr (record { opens = refl; ends = refl; alone = λ n. refl; stays = λ n. refl; further = λ ks d. refl; no_end = λ e. absurd cc }))
sort line.Row = inr (inr (record { opens = refl; ends = refl; alone = λ n. refl; stays = λ n. refl; further = λ ks d. refl; no_end = λ e. absurd cc }))
sort line.Cell = inr (inr (record { opens = refl; ends = refl; alone = λ n. refl; stays = λ n. refl; further = λ ks d. refl; no_end = λ e. absurd cc }))
sort line.Header = inr (inr (record { opens = refl; ends = refl; alone = λ n. refl; stays = λ n. refl; further = λ ks d. refl; no_end = λ e. absurd cc }))
sort line.Heading = inr (inr (record { opens = refl; ends = refl; alone = λ n. refl; stays = λ n. refl; further = λ ks d. refl; no_end = λ e. absurd cc }))
sort line.Rule = inr (inr (record { opens = refl; ends = refl; alone = λ n. refl; stays = λ n. refl; further = λ ks d. refl; no_end = λ e. absurd cc }))
sort line.List = inr (inr (record { opens = refl; ends = refl; alone = λ n. refl; stays = λ n. refl; further = λ ks d. refl; no_end = λ e. absurd cc }))
sort line.Pre = inr (inr (record { opens = refl; ends = refl; alone = λ n. refl; stays = λ n. refl; further = λ ks d. refl; no_end = λ e. absurd cc }))
sort line.Text = inr (inr (record { opens = refl; ends = refl; alone = λ n. refl; stays = λ n. refl; further = λ ks d. refl; no_end = λ e. absurd cc }))

-- ---- rows behind which no table is open, and none before they end

-- So many tables are open at the first row; up to each row before the last one at least is, and none behind the last.
abbrev pub Falls : ℕ → List Row → Type 0
Falls zero [] = Unit {0}
Falls (suc d) [] = ⊥
Falls zero (r ∷ rs) = ⊥
Falls (suc d) (r ∷ rs) = Falls (behind (suc d) r.kind) rs

pub falls_open : (d : ℕ) (r : Row) (rs : List Row) → r.kind ≡ line.TableOpen → Falls (suc d) (r ∷ rs) → Falls (suc (suc d)) rs
falls_open d r rs e h = subst (λ (n : ℕ). Falls n rs) (ap (behind (suc d)) e) h

pub falls_end : (d : ℕ) (r : Row) (rs : List Row) → r.kind ≡ line.TableEnd → Falls (suc d) (r ∷ rs) → Falls d rs
falls_end d r rs e h =
    let n : suc d - 1 ≡ d = omega arith in subst (λ (m : ℕ). Falls m rs) (ap (behind (suc d)) e ∙ n) h

pub falls_other : (d : ℕ) (r : Row) (rs : List Row) → IsOther r.kind → Falls (suc d) (r ∷ rs) → Falls (suc d) rs
falls_other d r rs o h = subst (λ (n : ℕ). Falls n rs) (o.stays (suc d)) h

-- ---- how far they go

abbrev kinds_of : List Row → List LineKind
kinds_of rs = map kind_of rs

end_step : (d : ℕ) (ks : List LineKind) (n : ℕ) → (d ≡ 0 → n ≡ 0) → ((e : ℕ) → d ≡ suc e → depth_len ks e ≡ n) → depth_len (line.TableEnd ∷ ks) d ≡ suc n
end_step zero ks n none more = ap suc (sym (none refl))
end_step (suc d) ks n none more = ap suc (more d refl)

none_left : (d : ℕ) (rs : List Row) → d ≡ 0 → Falls d rs → length rs ≡ 0
none_left zero [] e h = refl
none_left zero (r ∷ rs) e h = absurd h
none_left (suc d) rs e h = absurd cc

pub falls_len : (d : ℕ) (front back : List Row) → Falls (suc d) front → depth_len (kinds_of (front ++ back)) d ≡ length front
falls_len d [] back h = absurd h
falls_len d (r ∷ rs) back h =
    let ks = kinds_of (rs ++ back) in
    elim (sort r.kind) [
      | inl e ↦ ap (λ (k : LineKind). depth_len (k ∷ ks) d) e ∙ ap suc (falls_len (suc d) rs back (falls_open d r rs e h))
      | inr (inl e) ↦ ap (λ (k : LineKind). depth_len (k ∷ ks) d) e
          ∙ end_step d ks (length rs) (λ z. none_left d rs z (falls_end d r rs e h))
          (λ m z. falls_len m rs back (subst (λ (x : ℕ). Falls x rs) z (falls_end d r rs e h)))
      | inr (inr o) ↦ o.further ks d ∙ ap suc (falls_len d rs back (falls_other d r rs o h))
    ]

-- ---- by counts

-- as many are ended as are open at the first and opened, and fewer up to each row before the last
pub record IsClosed (d : ℕ) (rs : List Row) : Type 0 where
  pub balances : d + opened rs ≡ ended rs
  pub ends_fewer : (n : ℕ) → n < length rs → ended (take n rs) < d + opened (take n rs)

-- one row more, of which so many tables are opened and ended
one_more : (d c : ℕ) (r : Row) (rs : List Row) → c + one (is_end r.kind) ≡ suc d + one (is_open r.kind) → IsClosed c rs → IsClosed (suc d) (r ∷ rs)
one_more d c r rs e h = record {
  balances = omega (arith, opened_put r rs, ended_put r rs, h.balances, e);
  ends_fewer = more;
}
  where
    more : (n : ℕ) → n < length (r ∷ rs) → ended (take n (r ∷ rs)) < suc d + opened (take n (r ∷ rs))
    more zero l = omega arith
    more (suc n) l = omega (arith, opened_put r (take n rs), ended_put r (take n rs), h.ends_fewer n (omega (arith, l)), e)

none_closed : IsClosed 0 []
none_closed = record { balances = refl; ends_fewer = λ n l. absurd (omega (arith, l)) }

closed_rest : (d : ℕ) (rs : List Row) → ((e : ℕ) → d ≡ suc e → IsClosed d rs) → Falls d rs → IsClosed d rs
closed_rest zero [] go h = none_closed
closed_rest zero (r ∷ rs) go h = absurd h
closed_rest (suc d) rs go h = go d refl

pub falls_closed : (d : ℕ) (rs : List Row) → Falls (suc d) rs → IsClosed (suc d) rs
falls_closed d [] h = absurd h
falls_closed d (r ∷ rs) h =
    elim (sort r.kind) [
      | inl e ↦ let o : one (is_open r.kind) ≡ 1 = ap (λ k. one (is_open k)) e in
          let n : one (is_end r.kind) ≡ 0 = ap (λ k. one (is_end k)) e in
          one_more d (suc (suc d)) r rs (omega (arith, o, n)) (falls_closed (suc d) rs (falls_open d r rs e h))
      | inr (inl e) ↦ let o : one (is_open r.kind) ≡ 0 = ap (λ k. one (is_open k)) e in
          let n : one (is_end r.kind) ≡ 1 = ap (λ k. one (is_end k)) e in
          one_more d d r rs (omega (arith, o, n))
          (closed_rest d rs (λ m z. subst (λ (x : ℕ). IsClosed x rs) (sym z) (falls_closed m rs (subst (λ (x : ℕ). Falls x rs) z (falls_end d r rs e h))))
          (falls_end d r rs e h))
      | inr (inr t) ↦ let o : one (is_open r.kind) ≡ 0 = ap one t.opens in
          let n : one (is_end r.kind) ≡ 0 = ap one t.ends in
          one_more d (suc d) r rs (omega (arith, o, n)) (falls_closed d rs (falls_other d r rs t h))
    ]

-- the way back
one_fewer : (d c : ℕ) (r : Row) (rs : List Row) → c + one (is_end r.kind) ≡ d + one (is_open r.kind) → IsClosed d (r ∷ rs) → IsClosed c rs
one_fewer d c r rs e h = record {
  balances = omega (arith, opened_put r rs, ended_put r rs, h.balances, e);
  ends_fewer = λ n l. omega (arith, opened_put r (take n rs), ended_put r (take n rs), h.ends_fewer (suc n) (omega (arith, l)), e);
}

closed_none : (rs : List Row) → IsClosed 0 rs → Falls 0 rs
closed_none [] h = tt
closed_none (r ∷ rs) h = absurd (omega (arith, h.ends_fewer 0 (omega arith)))

pub closed_falls : (d : ℕ) (rs : List Row) → IsClosed d rs → Falls d rs
closed_falls zero rs h = closed_none rs h
closed_falls (suc d) [] h = absurd (omega (arith, h.balances))
closed_falls (suc d) (r ∷ rs) h =
    elim (sort r.kind) [
      | inl e ↦ let o : one (is_open r.kind) ≡ 1 = ap (λ k. one (is_open k)) e in
          let n : one (is_end r.kind) ≡ 0 = ap (λ k. one (is_end k)) e in
          subst (λ (x : ℕ). Falls x rs) (sym (ap (behind (suc d)) e))
          (closed_falls (suc (suc d)) rs (one_fewer (suc d) (suc (suc d)) r rs (omega (arith, o, n)) h))
      | inr (inl e) ↦ let o : one (is_open r.kind) ≡ 0 = ap (λ k. one (is_open k)) e in
          let n : one (is_end r.kind) ≡ 1 = ap (λ k. one (is_end k)) e in
          let z : suc d - 1 ≡ d = omega arith in
          subst (λ (x : ℕ). Falls x rs) (sym (ap (behind (suc d)) e ∙ z)) (closed_falls d rs (one_fewer (suc d) d r rs (omega (arith, o, n)) h))
      | inr (inr t) ↦ let o : one (is_open r.kind) ≡ 0 = ap one t.opens in
          let n : one (is_end r.kind) ≡ 0 = ap one t.ends in
          subst (λ (x : ℕ). Falls x rs) (sym (t.stays (suc d))) (closed_falls (suc d) rs (one_fewer (suc d) (suc d) r rs (omega (arith, o, n)) h))
    ]

-- ---- a unit is a row of another kind, or a row that opens a table with rows that close it

abbrev pub IsPart : List Row → Type 0
IsPart [] = ⊥
IsPart (r ∷ rs) = ((r.kind ≡ line.TableOpen) × Falls 1 rs) ⊎ (IsOther r.kind × (rs ≡ []))

pub part_is_unit : (u : List Row) → IsPart u → IsUnit u
part_is_unit [] h = absurd h
part_is_unit (r ∷ rs) (inl (e, f)) =
    let o : one (is_open r.kind) ≡ 1 = ap (λ k. one (is_open k)) e in
    let n : one (is_end r.kind) ≡ 0 = ap (λ k. one (is_end k)) e in
    let c = falls_closed 0 rs f in
    record {
      holds_rows = omega arith;
      balances = omega (arith, opened_put r rs, ended_put r rs, c.balances, o, n);
      ends_fewer = fewer o n c;
    }
  where
    fewer : one (is_open r.kind) ≡ 1 → one (is_end r.kind) ≡ 0 → IsClosed 1 rs → (n : ℕ) → 0 < n → n < length (r ∷ rs) → ended (take n (r ∷ rs)) < opened (take n (r ∷ rs))
    fewer o n c zero l m = absurd (omega (arith, l))
    fewer o n c (suc k) l m = omega (arith, opened_put r (take k rs), ended_put r (take k rs), c.ends_fewer k (omega (arith, m)), o, n)
part_is_unit (r ∷ rs) (inr (t, z)) =
    let o : one (is_open r.kind) ≡ 0 = ap one t.opens in
    let n : one (is_end r.kind) ≡ 0 = ap one t.ends in
    subst (λ (ss : List Row). IsUnit (r ∷ ss)) (sym z) (record {
      holds_rows = omega arith;
      balances = omega (arith, opened_put r [], ended_put r [], o, n);
      ends_fewer = λ k l m. absurd (omega (arith, l, m));
    })

no_more : (rs : List Row) → (0 < length rs → ⊥) → rs ≡ []
no_more [] h = refl
no_more (r ∷ rs) h = absurd (h (omega arith))

pub unit_is_part : (u : List Row) → IsUnit u → IsPart u
unit_is_part [] h = absurd (omega (arith, h.holds_rows))
unit_is_part (r ∷ rs) h =
    elim (sort r.kind) [
      | inl e ↦ let o : one (is_open r.kind) ≡ 1 = ap (λ k. one (is_open k)) e in
          let n : one (is_end r.kind) ≡ 0 = ap (λ k. one (is_end k)) e in
          inl (
            e,
            closed_falls 1 rs (record {
              balances = omega (arith, opened_put r rs, ended_put r rs, h.balances, o, n);
              ends_fewer = λ k l. omega (arith, opened_put r (take k rs), ended_put r (take k rs), h.ends_fewer (suc k) (omega arith) (omega (arith, l)), o, n);
            }),
          )
      | inr (inl e) ↦ let o : one (is_open r.kind) ≡ 0 = ap (λ k. one (is_open k)) e in
          let n : one (is_end r.kind) ≡ 1 = ap (λ k. one (is_end k)) e in
          let z : rs ≡ [] = no_more rs (λ l. omega (arith, opened_put r [], ended_put r [], h.ends_fewer 1 (omega arith) (omega (arith, l)), o, n)) in
          absurd (omega (arith, opened_put r rs, ended_put r rs, h.balances, o, n, ap opened z, ap ended z))
      | inr (inr t) ↦ let o : one (is_open r.kind) ≡ 0 = ap one t.opens in
          let n : one (is_end r.kind) ≡ 0 = ap one t.ends in
          inr (t, no_more rs (λ l. omega (arith, opened_put r [], ended_put r [], h.ends_fewer 1 (omega arith) (omega (arith, l)), o, n)))
    ]
