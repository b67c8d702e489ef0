-- What stays ready.
use Rattle.std.proofs.Common.{◌≡◌, ℕ, ◌≤◌, refl, sym, ap, ◌∙◌, subst, List, Option, Some, None, arith}
use Rattle.std.specs.Prelude.{slice_get}
use Rattle.emu_model.specs.declared.packets.Load.{Load}
use Rattle.emu_model.specs.declared.packets.Load.TheVariants.{Plain, Seg, Ack}
use Rattle.emu_model.specs.declared.packets.Packet.{Packet}
use Rattle.emu_model.specs.declared.rules.Verdict.{Verdict}
use Rattle.emu_model.specs.declared.rules.Verdict.TheVariants.{OverTheLink, Dropped, IntoPipe}
use Rattle.emu_model.specs.declared.sources.SendSpec.{SendSpec}
use Rattle.emu_model.specs.Rules.{RuleBook, verdict, start_behind}
use Rattle.pipe_table.specs.Table.{Table, HasRoomIn}
use Rattle.pipe_table.specs.Places.{HasRoomAtPlace, KeepsPlaces}
use Rattle.sources.specs.Kept.{KeptTraffic, with_traffic, HasRoomFor}
use Rattle.sources.specs.Sends.{reply_send}
use Rattle.network.specs.declared.flow_cache.Lookup.{Lookup}
use Rattle.network.specs.declared.flow_cache.Lookup.TheVariants.{Cached, Searched}
use Rattle.network.specs.declared.flow_cache.Route.{Route}
use Rattle.network.specs.declared.flow_cache.CacheEntry.{CacheEntry}
use Rattle.network.specs.Kept.{KeptNet}
use Rattle.network.specs.FlowCache.{IsRoute, plain}
use Rattle.network.specs.Ready.{IsReady, CanPass, start_after, CanMake, CanDeliver}
use Rattle.network.proofs.RouteFacts.{route-grown}

-- a packet that could be handed on in n can be in m
pub record IsRoomy (n m : KeptNet) : Type 0 where
  pub rooms : (k : ℕ) (packet : Packet) → HasRoomIn k packet n.table.pipes → HasRoomIn k packet m.table.pipes
  pub rooms_at : (size i j : ℕ) → HasRoomAtPlace size i j n.table.pipes → HasRoomAtPlace size i j m.table.pipes
  pub places : KeepsPlaces n.table.pipes m.table.pipes
  pub spare : n.direct.spare ≤ m.direct.spare
  pub book : m.book ≡ n.book
  pub flow_cache : m.flow_cache ≡ n.flow_cache

-- what needed no memory in n needs none in m
pub record IsAsReady (n m : KeptNet) : Type 0 where
  pub roomy : IsRoomy n m
  pub traffic : m.traffic ≡ n.traffic

module _ (n m : KeptNet) (a : IsRoomy n m) where
  as-ready : (v : Verdict) (x : Packet) → IsReady v x n → IsReady v x m
  as-ready OverTheLink x ready = omega (arith, ready, a.spare)
  as-ready Dropped x ready = ready
  as-ready (IntoPipe k place) x ready = a.rooms k x ready

  by-search : (start : ℕ) (x : Packet) → IsReady (verdict start x n.book.rules) x n → IsReady (verdict start x m.book.rules) x m
  by-search start x ready =
      subst (λ (b : RuleBook). IsReady (verdict start x b.rules) x m) (sym a.book)
      (as-ready (verdict start x n.book.rules) x ready)

  pub as-pass : (start : ℕ) (x : Packet) (known : Option Route) → CanPass start x known n → CanPass start x known m
  as-pass start x (Some w) ready = record {
    route = subst (λ (b : RuleBook). IsRoute start x w b.rules m.table.pipes) (sym a.book)
        (route-grown start x w n.book.rules n.table.pipes m.table.pipes a.places ready.route);
    room = a.rooms_at x.size w.pipe w.instance ready.room;
  }
  as-pass start x None ready = by-search start x ready

  pub as-make : (send : SendSpec) (lookup : Lookup) → CanMake send lookup n → CanMake send lookup m
  as-make send (Cached line) h = record {
    route = h.route;
    there = ap (λ (ls : List (Option CacheEntry)). slice_get ls line) a.flow_cache ∙ h.there;
    room = a.rooms_at send.size h.route.pipe h.route.instance h.room;
  }
  as-make send Searched ready = by-search 0 (plain send) ready

  -- behind the place of a packet that goes on
  pub as-behind : (x : Packet) (known : Option Route) → CanPass (start_after x n) x known n → CanPass (start_after x m) x known m
  as-behind x known ready =
      subst (λ (b : RuleBook). CanPass (start_behind x.place b.rules) x known m) (sym a.book) (as-pass (start_after x n) x known ready)

module _ (n m : KeptNet) (a : IsAsReady n m) where
  pub as-deliver : (load : Load) (lookup : Lookup) → CanDeliver load lookup n → CanDeliver load lookup m
  as-deliver Plain lookup ready = ready
  as-deliver (Ack k upto) lookup ready = ready
  as-deliver (Seg k first) lookup (room, make) = (
    subst (λ (t : KeptTraffic). HasRoomFor k t) (sym a.traffic) room,
    (λ send is. as-make n m a.roomy send lookup (make send (λ x. ap (λ (t : KeptTraffic). reply_send k (with_traffic t x)) (sym a.traffic) ∙ is x))),
  )

-- the pipes and the rules are the same
pub roomy-same : (n m : KeptNet) → m.table ≡ n.table → n.direct.spare ≤ m.direct.spare → m.book ≡ n.book → m.flow_cache ≡ n.flow_cache → IsRoomy n m
roomy-same n m same spare book flow_cache =
    let t : Table → Type 0 = λ u. ((k : ℕ) (packet : Packet) → HasRoomIn k packet n.table.pipes → HasRoomIn k packet u.pipes)
    × (((size i j : ℕ) → HasRoomAtPlace size i j n.table.pipes → HasRoomAtPlace size i j u.pipes)
    × KeepsPlaces n.table.pipes u.pipes) in
    let all : t m.table = subst t (sym same) (
      (λ k x h. h),
      ((λ size i j h. h), record { places = λ k. refl; inside = λ i j h. h; routes = λ k x i j h. h }),
    ) in
    record { rooms = all.0; rooms_at = all.1.0; places = all.1.1; spare = spare; book = book; flow_cache = flow_cache }

-- only the link changed, and has as much room
pub direct-as-ready : (n m : KeptNet) → m ≡ record n { direct = m.direct } → n.direct.spare ≤ m.direct.spare → IsAsReady n m
direct-as-ready n m rest spare = record {
  roomy = roomy-same n m (ap (λ (o : KeptNet). o.table) rest) spare (ap (λ (o : KeptNet). o.book) rest) (ap (λ (o : KeptNet). o.flow_cache) rest);
  traffic = ap (λ (o : KeptNet). o.traffic) rest;
}

-- only records came
pub noted-as-ready : (n m : KeptNet) → m ≡ record n { log = m.log } → IsAsReady n m
noted-as-ready n m rest = record {
  roomy = roomy-same n m (ap (λ (o : KeptNet). o.table) rest) (omega (arith, ap (λ (o : KeptNet). o.direct.spare) rest)) (ap (λ (o : KeptNet). o.book) rest) (ap (λ (o : KeptNet). o.flow_cache) rest);
  traffic = ap (λ (o : KeptNet). o.traffic) rest;
}
