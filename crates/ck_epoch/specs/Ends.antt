-- The tokens of a domain between two of their calls.
use Rattle.std.specs.Prelude.{◌≡◌, ℕ, suc, ◌<◌, ◌≤◌, ◌^◌, List}
use Rattle.ck_run.specs.Rule.{IsPart}
use Rattle.ck_run.specs.Tokens.{number, origin}
use Rattle.ck_words.specs.declared.back.Back.{Back}
use Rattle.ck_epoch.specs.declared.about.About.{About}
use Rattle.ck_epoch.specs.State.{Origin, Token, IsOpening, free, at_depth, queue, state, records_of}
use Rattle.ck_epoch.specs.Lists.{Backlog, AreListsOf, AreRetired}
use Rattle.ck_epoch.specs.Client.{Client, IsClientOpening, program}

-- What contracts see of a writer: its token, how many counted calls were made with it, the answers that wait, how many items and answers
-- there is room for, the handler and the tally
pub record Writer (C F : Type 0) : Type 0 where
  pub token : Token C
  pub calls : ℕ
  pub waiting : List Back
  pub room : ℕ
  pub handler : F
  pub tally : ℕ

-- and of a reader's pass
pub record Pass (C : Type 0) : Type 0 where
  pub token : Token C
  pub calls : ℕ
  pub tally : ℕ

module _ {C : Type 0} (client : Client C) where
  -- the account of the token is a part of a true run of the calls of a domain
  abbrev pub IsDomainToken : Token C → Type 0
  IsDomainToken t = IsPart (program client) (origin t) t.view.own

  -- the writer's token, and that of a pass, in a true run. This much a caller may use where it shows that the client allows a step
  pub record IsWriting (t : Token C) : Type 0 where
    pub part : IsDomainToken t
    pub first : number t ≡ 0

  pub record IsReading (t : Token C) : Type 0 where
    pub part : IsDomainToken t
    pub rec : ℕ
    pub other : number t ≡ suc rec
    pub low : rec < records_of (origin t)

  -- the writer between two calls. The items on its lists are those that its account tells of
  pub record IsWriter (t : Token C) (b : Backlog) : Type 0 where
    pub part : IsDomainToken t
    pub first : number t ≡ 0
    pub stage : (state t).stage ≡ free
    pub pending : AreListsOf b.lists (queue (state t).pending)
    pub retired : AreRetired (client.retires (origin t).config.client) (queue (state t).pending)

  -- a pass between two calls
  pub record IsPass (t : Token C) (rec depth : ℕ) : Type 0 where
    pub part : IsDomainToken t
    pub other : number t ≡ suc rec
    pub low : rec < records_of (origin t)
    pub stage : (g : ℕ) × ((state t).stage ≡ at_depth depth g)

  -- what a domain keeps of how it began
  pub record IsDomain (origin : Origin C) (about : About C) : Type 0 where
    pub opening : IsOpening origin
    pub words : IsClientOpening client origin
    pub told : origin.config ≡ about
    pub few : records_of origin ≤ 64
    pub small : client.size origin.config.client ≤ 2 ^ 33
