-- The packets of a net that move from one shelf to another.
use Rattle.std.proofs.Common.{◌≡◌, ℕ, ap, sym, subst, ◌∙◌, ◌++◌, None, arith}
use Rattle.emu_model.specs.Net.{Net}
use Rattle.link_core.specs.Lane.{Lane}
use Rattle.packet_store.specs.Pocket.{Pocket, empty_pocket}
use Rattle.pipe_core.specs.KeyedInstance.{seen_line}
use Rattle.pipe_core.specs.Moves.{packet_at, found, AreNamed}
use Rattle.pipe_core.specs.Views.{ViewsAgree}
use Rattle.pipe_core.specs.Rehousing.{Rehouses}
use Rattle.pipe_table.specs.Table.{Table, seen_pipes, with_pipes, pipe_keys}
use Rattle.pipe_core.proofs.CallerLemmas.{AreNamed-after, AreNamed-front, Rehouses-then}
use Rattle.pipe_table.proofs.CallerLemmas.{as-many, name-kept, shown-left}
use Rattle.network.specs.Kept.{KeptNet, net_of, line_keys, net_keys, IsHoused}
use Rattle.network.proofs.KeyCounts.{not-found}
use Rattle.network.proofs.Frame.{line-agrees}

-- all keys of a net are named
net-named : (p : Pocket) (n : KeptNet) → IsHoused p n → AreNamed p (net_keys n)
net-named p n h = record {
  each = λ k. omega (arith, h.each k);
  within = omega (arith, h.count);
}

-- first the link's packets move, of a net whose view is n
module _ (p r : Pocket) (view n : KeptNet) (is : n ≡ view) (housed : IsHoused p view) (empty : r ≡ empty_pocket r.budget) where
  h : IsHoused p n
  h = subst (IsHoused p) (sym is) housed

  pub line-named : AreNamed p (line_keys n.direct.line)
  line-named = AreNamed-front p (line_keys n.direct.line) (pipe_keys n.table.pipes) (net-named p n h)

  -- and then those of the pipes
  module _ (q s : Pocket) (l : Lane ℕ) (line : Rehouses p q r s (line_keys n.direct.line) (line_keys l.line)) where
    pub pipes-left : AreNamed q (pipe_keys n.table.pipes)
    pipes-left = AreNamed-after p q (line_keys n.direct.line) (pipe_keys n.table.pipes) (net-named p n h) line.takes

    module _ (t u : Pocket) (tb : Table) (pipes : Rehouses q t s u (pipe_keys n.table.pipes) (pipe_keys tb.pipes)) where
      all : Rehouses p t r u (net_keys n) (line_keys l.line ++ pipe_keys tb.pipes)
      all = Rehouses-then p q t r s u (line_keys n.direct.line) (pipe_keys n.table.pipes) (line_keys l.line) (pipe_keys tb.pipes) (net-named p n h) line pipes

      pub net-housed : IsHoused u (record n { direct = l; table = tb })
      net-housed = record {
        each = λ k. omega (arith, all.gives.came k, ap (λ (x : Pocket). found (x.find k)) empty);
        count = omega (arith, all.gives.count, ap (λ (x : Pocket). x.count) empty);
      }

      pub net-count : u.count ≡ p.count
      net-count = omega (
        arith,
        all.gives.count,
        ap (λ (x : Pocket). x.count) empty,
        as-many p t r u (net_keys n) (line_keys l.line ++ pipe_keys tb.pipes) all,
        h.count,
      )

      -- nothing is left
      pub net-gone : t ≡ empty_pocket p.budget
      net-gone =
          let none : (k : ℕ) → t.find k ≡ None = λ k. not-found (t.find k) (omega (arith, all.takes.gone k, h.each k)) in
          let zero : t.count ≡ 0 = omega (arith, all.takes.count, h.count) in
          λ i. record { find = λ k. none k i; count = zero i; budget = all.takes.budget i }

      pub net-shown : ViewsAgree → seen_line (packet_at s.find) l.line ≡ seen_line (packet_at p.find) n.direct.line →
          ((m : Net) → with_pipes u tb m ≡ with_pipes q n.table m) →
          net_of u (record n { direct = l; table = tb }) ≡ net_of p view
      net-shown agree link table =
          let stays : seen_line (packet_at u.find) l.line ≡ seen_line (packet_at s.find) l.line =
          line-agrees (packet_at s.find) (packet_at u.find) l.line (λ k used.
          name-kept s u (pipe_keys tb.pipes) pipes.gives k (omega (arith, used, line.gives.came k))) in
          let left : seen_pipes (packet_at q.find) n.table.pipes ≡ seen_pipes (packet_at p.find) n.table.pipes =
          shown-left agree p q (line_keys n.direct.line) n.table.pipes line.takes pipes-left in
          let shown : seen_pipes (packet_at u.find) tb.pipes ≡ seen_pipes (packet_at q.find) n.table.pipes =
          ap (λ (m : Net). m.pipes) (table (net_of p n)) in
          let moved : net_of u (record n { direct = l; table = tb }) ≡ net_of p n =
          λ i. record (net_of p n) { pipes = (shown ∙ left) i; direct = (stays ∙ link) i } in
          moved ∙ ap (net_of p) is
