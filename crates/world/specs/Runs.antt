-- Lists of steps, and what is read of a name.
use Rattle.std.specs.Prelude.{◌≡◌, ℕ, ◌+◌, List, [], ◌∷◌, Option, Some, None, option_map}
use Rattle.emu_model.specs.declared.commands.Timed.{Timed}
use Rattle.emu_model.specs.declared.records.Record.{Record}
use Rattle.shard.specs.Mails.{MailBook}
use Rattle.shard.specs.Stand.{Stand}
use Rattle.world.specs.declared.steps.Did.{Did}
use Rattle.world.specs.declared.steps.Did.TheVariants.{Done, Still, NoMemory}
use Rattle.world.specs.declared.steps.Step.{Step}
use Rattle.world.specs.declared.steps.Step.TheVariants.{Registered, Post, Admit, Turn, Poll}
use Rattle.world.specs.declared.steps.Step.TheVariants.{Offer, Retake, Adopt, Rebase, ReadLetter}
use Rattle.world.specs.declared.home.Place.{Place}
use Rattle.world.specs.Tenants.{Life, Tenant, shown}
use Rattle.world.specs.Places.{Places, tenant_at}
use Rattle.world.specs.Steps.{IsRegistered, IsPost, IsRead, IsAdmission, IsOffer, IsBringing}
use Rattle.world.specs.Steps.{IsWorldTurn, IsWorldPoll, IsWorldRebase}

-- one step, with its result
abbrev pub Does : Step → Did → Places → Places → Type 0
Does (Registered spec) did old new = IsRegistered spec did old new
Does (Post n timed) did old new = IsPost n timed did old new
Does (Admit n i) did old new = IsAdmission n i did old new
Does (Turn i) did old new = IsWorldTurn i did old new
Does (Poll i slot) did old new = IsWorldPoll i slot did old new
Does (Offer i slot) did old new = IsOffer i slot did old new
Does (Retake i) did old new = IsBringing i i did old new
Does (Adopt i from) did old new = IsBringing i from did old new
Does (Rebase i) did old new = IsWorldRebase i did old new
Does (ReadLetter n) did old new = IsRead n did old new

-- 1 if memory ran out
abbrev pub refusals_of : Did → ℕ
refusals_of Done = 0
refusals_of Still = 0
refusals_of NoMemory = 1

-- the composition of the steps, in order, and the number of steps in which memory ran out
abbrev pub Runs : List Step → ℕ → Places → Places → Type 0
Runs [] n old new = (n ≡ 0) × (new ≡ old)
Runs (step ∷ steps) n old new =
    (did : Did) × (mid : Places) × (m : ℕ) × Does step did old mid × Runs steps m mid new × (n ≡ refusals_of did + m)

abbrev pub place_at : Places → ℕ → Option Place
place_at w n = option_map (λ (t : Tenant). t.place) (tenant_at w n)

abbrev pub life_at : Places → ℕ → Option Life
life_at w n = option_map (λ (t : Tenant). t.life) (tenant_at w n)

abbrev pub records_shown : Option Tenant → List Record
records_shown None = []
records_shown (Some t) = (shown t.life).records

abbrev pub records_at : Places → ℕ → List Record
records_at w n = records_shown (tenant_at w n)

abbrev pub commands_shown : Option Tenant → List Timed
commands_shown None = []
commands_shown (Some t) = (shown t.life).commands

abbrev pub consumed_at : Places → ℕ → List Timed
consumed_at w n = commands_shown (tenant_at w n)

-- the records of the resident of a slot
abbrev pub stand_records : Option (Stand MailBook) → List Record
stand_records None = []
stand_records (Some s) = s.state.net.records

abbrev pub stand_commands : Option (Stand MailBook) → List Timed
stand_commands None = []
stand_commands (Some s) = s.consumed
