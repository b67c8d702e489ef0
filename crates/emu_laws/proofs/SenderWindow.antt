-- A sender keeps to the receiver's window: what each change of a flow keeps of it.
use Rattle.std.proofs.Common.{◌≡◌, ◌⊎◌, inl, inr, ℕ, suc, ◌+◌, ◌-◌, ◌*◌, ◌/◌, ◌%◌, ◌<◌, ◌≤◌, List, [], ◌∷◌, ◌++◌, Bool, true, false, refl, ◌∙◌, ap, subst, Option, Some, None, arith}
use Rattle.std.specs.Prelude.{if◌then◌else◌, nat_lt, nat_le, ◌==◌, ◌||◌, ◌&&◌, min, max, option_map, option_to_list}
use Rattle.std.specs.List.{AllByRecursion}
use Rattle.std.proofs.Math.Nat.{zero-mod, add-mod_right, mul-le-mul_right}
use Rattle.std.proofs.lemmas.Nat.{div-add-mod'}
use Rattle.std.proofs.lemmas.Bool.{ltb-true, leb-true, eqb-true, and_parts, cases_lt}
use Rattle.emu_laws.proofs.Types.{Spec, Timed, Expiry, Emission, FlowSpec}
use Rattle.emu_model.specs.Reno.{Sender, total_bytes, has_room, may_emit, is_new, is_duplicate, ack, ack_new, ack_duplicate, enter_recovery, started_timer, started_sample, emit, expire, bounded}
use Rattle.emu_model.specs.Net.{FlowState}
use Rattle.emu_model.specs.declared.sources.Due.{Due}
use Rattle.emu_model.specs.Dues.{due, flow_dues}
use Rattle.emu_model.specs.Alone.{alone}
use Rattle.emu_laws.proofs.EachOf.{either, each_joined, each_weaker, each_found, of_choice}
use Rattle.emu_laws.proofs.MissingFacts.{fewer}
use Rattle.emu_laws.proofs.FlowsKept.{MaySend, FlowKeeps, alone-flows, alone-sends}
use Rattle.emu_laws.specs.SenderWindow.{FlightFitsWindow, NewDataFitsWindows, DoneFlowsAreSilent, SequenceIsInOrder, TooSmallWindowSendsNothing}

-- whole segments are acknowledged and sent, in order, within the window and the flow's bytes; what is sent again
-- was sent before
pub record Fits (f : FlowSpec) (s : Sender) : Type 0 where
  pub whole_una : s.snd_una % f.smss ≡ 0
  pub whole_nxt : s.snd_nxt % f.smss ≡ 0
  pub una_nxt : s.snd_una ≤ s.snd_nxt
  pub nxt_max : s.snd_nxt ≤ s.snd_max
  pub window : s.snd_max ≤ s.snd_una + f.rwnd
  pub bytes : s.snd_max ≤ total_bytes f
  pub again : s.resend ≡ true → s.snd_una < s.snd_max

-- a whole segment more fits below a whole number of them
whole_more : (a m n : ℕ) → a % m ≡ 0 → a < n * m → a + m ≤ n * m
whole_more a m n whole low =
    let q : ℕ = a / m in
    let parts : q * m + a % m ≡ a = div-add-mod' a m in
    let below : q < n = fewer q n m (omega (arith, parts, whole, low)) in
    let up : suc q * m ≤ n * m = mul-le-mul_right {m = suc q} {n = n} m (omega (arith, below)) in
    let more : suc q * m ≡ q * m + m = omega arith in
    omega (arith, parts, whole, up, more)

max-whole : (a b m : ℕ) → a % m ≡ 0 → b % m ≡ 0 → max a b % m ≡ 0
max-whole a b m p q = go (larger a b)
  where
    larger : (x y : ℕ) → (max x y ≡ x) ⊎ (max x y ≡ y)
    larger x y = elim (cases_lt x y) [
      | inl l ↦ inr (omega arith)
      | inr l ↦ inl (omega arith)
    ]

    go : (max a b ≡ a) ⊎ (max a b ≡ b) → max a b % m ≡ 0
    go (inl e) = ap (λ x. x % m) e ∙ p
    go (inr e) = ap (λ x. x % m) e ∙ q

-- only counts, windows and times are other
same : (f : FlowSpec) (s t : Sender) → t.snd_una ≡ s.snd_una → t.snd_nxt ≡ s.snd_nxt → t.snd_max ≡ s.snd_max →
    (t.resend ≡ true → s.snd_una < s.snd_max) → Fits f s → Fits f t
same f s t una nxt most again h = record {
  whole_una = ap (λ x. x % f.smss) una ∙ h.whole_una;
  whole_nxt = ap (λ x. x % f.smss) nxt ∙ h.whole_nxt;
  una_nxt = omega (arith, una, nxt, h.una_nxt);
  nxt_max = omega (arith, nxt, most, h.nxt_max);
  window = omega (arith, una, most, h.window);
  bytes = omega (arith, most, h.bytes);
  again = λ e. omega (arith, una, most, again e);
}

new-fits : (f : FlowSpec) (now a : ℕ) (s : Sender) → is_new f a s ≡ true → Fits f s → Fits f (ack_new f now a s)
new-fits f now a s e h =
    let parts = and_parts (nat_lt s.snd_una a && nat_le a s.snd_max) (a % f.smss == 0) e in
    let bounds = and_parts (nat_lt s.snd_una a) (nat_le a s.snd_max) parts.0 in
    let low : s.snd_una < a = ltb-true s.snd_una a bounds.0 in
    let high : a ≤ s.snd_max = leb-true a s.snd_max bounds.1 in
    let whole : a % f.smss ≡ 0 = eqb-true (a % f.smss) 0 parts.1 in
    record {
      whole_una = whole;
      whole_nxt = max-whole s.snd_nxt a f.smss h.whole_nxt whole;
      una_nxt = omega arith;
      nxt_max = omega (arith, h.nxt_max, high);
      window = omega (arith, h.window, low);
      bytes = h.bytes;
      again = λ g. absurd (cc g);
    }

duplicate-fits : (f : FlowSpec) (a : ℕ) (s : Sender) → is_duplicate a s ≡ true → Fits f s → Fits f (ack_duplicate f s)
duplicate-fits f a s e h =
    either (Fits f) s.recovery (record t { cwnd = bounded (s.cwnd + f.smss) })
    (if t.duplicates == 3 then enter_recovery f t else t) (same f s _ refl refl refl h.again h)
    (either (Fits f) (t.duplicates == 3) (enter_recovery f t) t (same f s _ refl refl refl (λ g. sent) h)
    (same f s _ refl refl refl h.again h))
  where
    t : Sender
    t = record s { duplicates = bounded (s.duplicates + 1) }

    sent : s.snd_una < s.snd_max
    sent = ltb-true s.snd_una s.snd_max (and_parts (a == s.snd_una) (nat_lt s.snd_una s.snd_max) e).1

ack-fits : (f : FlowSpec) (now a : ℕ) (s : Sender) → Fits f s → Fits f (ack f now a s)
ack-fits f now a s h = go (is_new f a s) refl
  where
    other : (b : Bool) → is_duplicate a s ≡ b → Fits f (if b then ack_duplicate f s else s)
    other true e = duplicate-fits f a s e h
    other false e = h

    go : (b : Bool) → is_new f a s ≡ b →
        Fits f (if b then ack_new f now a s else (if is_duplicate a s then ack_duplicate f s else s))
    go true e = new-fits f now a s e h
    go false e = other (is_duplicate a s) refl

expire-fits : (f : FlowSpec) (now : ℕ) (s : Sender) → Fits f s → Fits f (expire f now s)
expire-fits f now s h = record {
  whole_una = h.whole_una;
  whole_nxt = h.whole_una;
  una_nxt = omega arith;
  nxt_max = omega (arith, h.una_nxt, h.nxt_max);
  window = h.window;
  bytes = h.bytes;
  again = λ g. absurd (cc g);
}

-- where there is room, a segment of new data is left, and it fits both windows
pub record Room (f : FlowSpec) (s : Sender) : Type 0 where
  pub left : s.snd_nxt < total_bytes f
  pub fits : s.snd_nxt + f.smss - s.snd_una ≤ min s.cwnd f.rwnd

pub room : (f : FlowSpec) (s : Sender) → may_emit f s ≡ true → s.resend ≡ false → Room f s
room f s may calm =
    let there : has_room f s ≡ true = subst (λ b. (b || has_room f s) ≡ true) calm may in
    let parts = and_parts (nat_lt s.snd_nxt (total_bytes f)) (nat_le (s.snd_nxt + f.smss - s.snd_una) (min s.cwnd f.rwnd)) there in
    record {
      left = ltb-true s.snd_nxt (total_bytes f) parts.0;
      fits = leb-true (s.snd_nxt + f.smss - s.snd_una) (min s.cwnd f.rwnd) parts.1;
    }

again-fits : (f : FlowSpec) (now : ℕ) (s : Sender) → Fits f s →
    Fits f (record s { resend = false; timer = started_timer now s })
again-fits f now s h = same f s _ refl refl refl (λ g. absurd (cc g)) h

first-fits : (f : FlowSpec) (now : ℕ) (s : Sender) → Room f s → Fits f s →
    Fits f (record s {
      snd_nxt = s.snd_nxt + f.smss;
      snd_max = max s.snd_max (s.snd_nxt + f.smss);
      sample = started_sample f now s;
      timer = started_timer now s;
    })
first-fits f now s r h =
    let fits : s.snd_nxt + f.smss - s.snd_una ≤ f.rwnd = omega (arith, r.fits) in
    record {
      whole_una = h.whole_una;
      whole_nxt = add-mod_right s.snd_nxt f.smss ∙ h.whole_nxt;
      una_nxt = omega (arith, h.una_nxt);
      nxt_max = omega arith;
      window = omega (arith, fits, h.window, h.una_nxt);
      bytes = omega (arith, h.bytes, whole_more s.snd_nxt f.smss f.segments h.whole_nxt r.left);
      again = λ g. omega (arith, h.again g);
    }

emit-fits : (f : FlowSpec) (now : ℕ) (s : Sender) → may_emit f s ≡ true → Fits f s → Fits f (emit f now s)
emit-fits f now s may h =
    of_choice (Fits f) s.resend (record s { resend = false; timer = started_timer now s })
    (record s {
      snd_nxt = s.snd_nxt + f.smss;
      snd_max = max s.snd_max (s.snd_nxt + f.smss);
      sample = started_sample f now s;
      timer = started_timer now s;
    })
    (λ e. again-fits f now s h) (λ e. first-fits f now s (room f s may e) h)

-- what is said of the sender of a flow
abbrev pub FlowFits : FlowState → Type 0
FlowFits f = Fits f.flow f.sender

fits-kept : FlowKeeps FlowFits
fits-kept = record {
  came = λ came f h. h;
  acked = λ now upto f h. ack-fits f.flow now upto f.sender h;
  expired = λ now f h. expire-fits f.flow now f.sender h;
  emitted = λ now f may h. emit-fits f.flow now f.sender may.1 h;
  stopped = λ f h. h;
  started = λ k f. record {
    whole_una = zero-mod f.smss;
    whole_nxt = zero-mod f.smss;
    una_nxt = omega arith;
    nxt_max = omega arith;
    window = omega arith;
    bytes = omega arith;
    again = λ g. absurd (cc g);
  };
}

pub alone-fits : (spec : Spec) (c : List Timed) (n : ℕ) → AllByRecursion FlowFits (alone spec c n).net.flows
alone-fits spec c n = alone-flows FlowFits fits-kept spec c n

pub flight_fits_window : FlightFitsWindow
flight_fits_window spec c n =
    each_weaker FlowFits _ (λ f h. omega (arith, h.window)) (alone spec c n).net.flows (alone-fits spec c n)

pub new_data_fits_windows : NewDataFitsWindows
new_data_fits_windows spec c n t f is none there calm =
    let h : FlowFits f = each_found FlowFits _ f (alone spec c n).net.flows there (alone-fits spec c n) in
    let may : MaySend f = alone-sends spec c n t is none f there in
    let r : Room f.flow f.sender = room f.flow f.sender may.1 calm in
    omega (arith, r.fits, h.una_nxt)

-- nothing is sent again where every byte is acknowledged, nor is there room
quiet : (f : FlowState) → FlowFits f → f.sender.snd_una ≡ total_bytes f.flow → may_emit f.flow f.sender ≡ true → ⊥
quiet f h all may = go f.sender.resend refl
  where
    go : (b : Bool) → f.sender.resend ≡ b → ⊥
    go true e = omega (arith, h.again e, h.bytes, all)
    go false e =
        let r : Room f.flow f.sender = room f.flow f.sender may e in
        omega (arith, r.left, h.una_nxt, all)

silent : (clock : ℕ) (f : FlowState) → FlowFits f → (f.stopped ≡ true) ⊎ (f.sender.snd_una ≡ total_bytes f.flow) →
    AllByRecursion (λ d. d.source.class ≡ Emission → ⊥) (flow_dues clock f)
silent clock f h done = go f.stopped refl done
  where
    Q : Due → Type 0
    Q d = d.source.class ≡ Emission → ⊥

    timer : (o : Option ℕ) → AllByRecursion Q (option_to_list (option_map (due Expiry f.number) o))
    timer None = tt
    timer (Some m) = ((λ e. cc e), tt)

    segment : f.sender.snd_una ≡ total_bytes f.flow → (b : Bool) → may_emit f.flow f.sender ≡ b →
        AllByRecursion Q (if b then due Emission f.number clock ∷ [] else [])
    segment all true may = absurd (quiet f h all may)
    segment all false may = tt

    go : (b : Bool) → f.stopped ≡ b → (f.stopped ≡ true) ⊎ (f.sender.snd_una ≡ total_bytes f.flow) →
        AllByRecursion Q (if b then [] else option_to_list (option_map (due Expiry f.number) f.sender.timer)
        ++ (if may_emit f.flow f.sender then due Emission f.number clock ∷ [] else []))
    go true e d = tt
    go false e (inl s) = absurd (cc (e, s))
    go false e (inr all) =
        each_joined Q (option_to_list (option_map (due Expiry f.number) f.sender.timer)) _ (timer f.sender.timer)
        (segment all (may_emit f.flow f.sender) refl)

pub done_flows_are_silent : DoneFlowsAreSilent
done_flows_are_silent spec c n =
    each_weaker FlowFits _ (λ f h. silent (alone spec c n).clock f h) (alone spec c n).net.flows (alone-fits spec c n)

pub sequence_is_in_order : SequenceIsInOrder
sequence_is_in_order spec c n =
    each_weaker FlowFits _ (λ f h. (h.una_nxt, h.nxt_max, h.bytes)) (alone spec c n).net.flows (alone-fits spec c n)

-- nothing was sent, nor is to be sent again
record Nothing (s : Sender) : Type 0 where
  una : s.snd_una ≡ 0
  nxt : s.snd_nxt ≡ 0
  most : s.snd_max ≡ 0
  calm : s.resend ≡ false

ack-nothing : (f : FlowSpec) (now a : ℕ) (s : Sender) → Nothing s → Nothing (ack f now a s)
ack-nothing f now a s h =
    of_choice Nothing (is_new f a s) (ack_new f now a s) (if is_duplicate a s then ack_duplicate f s else s)
    (λ e. absurd (new (and_parts (nat_lt s.snd_una a && nat_le a s.snd_max) (a % f.smss == 0) e).0))
    (λ e. of_choice Nothing (is_duplicate a s) (ack_duplicate f s) s
    (λ g. absurd (omega (arith, h.una, h.most, ltb-true s.snd_una s.snd_max (and_parts (a == s.snd_una) (nat_lt s.snd_una s.snd_max) g).1)))
    (λ g. h))
  where
    new : (nat_lt s.snd_una a && nat_le a s.snd_max) ≡ true → ⊥
    new e =
        let parts = and_parts (nat_lt s.snd_una a) (nat_le a s.snd_max) e in
        omega (arith, h.most, ltb-true s.snd_una a parts.0, leb-true a s.snd_max parts.1)

emit-nothing : (f : FlowSpec) (now : ℕ) (s : Sender) → f.rwnd < f.smss → may_emit f s ≡ true → Nothing s →
    Nothing (emit f now s)
emit-nothing f now s low may h =
    let r : Room f s = room f s may h.calm in
    absurd (omega (arith, r.fits, low, h.una, h.nxt))

abbrev SendsNothing : FlowState → Type 0
SendsNothing f = f.flow.rwnd < f.flow.smss → Nothing f.sender

nothing-kept : FlowKeeps SendsNothing
nothing-kept = record {
  came = λ came f h. h;
  acked = λ now upto f h low. ack-nothing f.flow now upto f.sender (h low);
  expired = λ now f h low. record { una = (h low).una; nxt = (h low).una; most = (h low).most; calm = refl };
  emitted = λ now f may h low. emit-nothing f.flow now f.sender low may.1 (h low);
  stopped = λ f h. h;
  started = λ k f low. record { una = refl; nxt = refl; most = refl; calm = refl };
}

pub too_small_window_sends_nothing : TooSmallWindowSendsNothing
too_small_window_sends_nothing spec c n =
    each_weaker SendsNothing _ (λ f h low. (h low).most) (alone spec c n).net.flows
    (alone-flows SendsNothing nothing-kept spec c n)
