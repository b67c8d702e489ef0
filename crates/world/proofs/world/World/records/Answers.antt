use Rattle.std.proofs.Common.{◌≡◌, Some, refl, arith}
use Rattle.std.specs.Prelude.{slice_get}
use Rattle.world.specs.declared.home.Home.TheVariants.{Handed, Queued, Left}
use Rattle.world.specs.declared.home.Desk.{Desk}
use Rattle.world.specs.Tenants.{Standing, Over}
use Rattle.world.specs.Places.{Places}
use Rattle.world.proofs.ReadFacts.{no_records, records_held, records_sat}
use Rattle.world.proofs.IndexFacts.{desk_read}
use Rattle.world.proofs.world.World.records.Goals as goal

pub returns-then-at-len : goal.returns-then-at-len
returns-then-at-len g c =
    let s = c.self.inside in
    no_records _ _ c.args.name c.self.view_is (omega (arith, s.desks.ok.0))

pub returns-in-Handed : goal.returns-in-Handed
returns-in-Handed g c =
    let s = c.self.inside in
    let found = desk_read s.desks.items (omega (arith, s.desks.ok.0)) c.index.ensures in
    records_held _ _ c.args.name _ (Handed c.in-Handed.parcel) (Standing c.in-Handed.parcel) _ c.self.view_is found c.in-Handed.is refl c.records.ensures

pub returns-in-Seated : goal.returns-in-Seated
returns-in-Seated g c =
    let s = c.self.inside in
    let found = desk_read s.desks.items (omega (arith, s.desks.ok.0)) c.index.ensures in
    records_sat _ _ c.args.name _ c.in-Seated.shard c.in-Seated.slot _ c.self.view_is found c.in-Seated.is c.records_in.ensures

pub returns-in-Queued : goal.returns-in-Queued
returns-in-Queued g c =
    let s = c.self.inside in
    let found = desk_read s.desks.items (omega (arith, s.desks.ok.0)) c.index.ensures in
    records_held _ _ c.args.name _ (Queued c.in-Queued.shard c.in-Queued.parcel) (Standing c.in-Queued.parcel) _ c.self.view_is found c.in-Queued.is refl c.records-in-Queued.ensures

pub returns-in-Left : goal.returns-in-Left
returns-in-Left g c =
    let s = c.self.inside in
    let found = desk_read s.desks.items (omega (arith, s.desks.ok.0)) c.index.ensures in
    records_held _ _ c.args.name _ (Left c.in-Left.dossier) (Over c.in-Left.dossier) _ c.self.view_is found c.in-Left.is refl c.records-in-Left.ensures
