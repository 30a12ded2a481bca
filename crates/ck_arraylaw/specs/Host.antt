-- Where an array stands: in a domain whose client is the array's own, or holds it.
use Rattle.std.specs.Prelude.{ℕ, ◌+◌}
use Rattle.ck_epoch.specs.State.{Origin, base_of}
use Rattle.ck_epoch.specs.Client.{Client}
use Rattle.ck_epoch.specs.Within.{inner_origin}
use Rattle.ck_arraylaw.specs.declared.client.ArrayClient.{ArrayClient}

-- the domain's client, the place of the array's first word among the client's, and the array's own client
pub record Host (D : Type 0) : Type 1 where
  pub client : Client D
  pub place : D → ℕ
  pub part : D → ArrayClient

-- such a record, as contracts give it
abbrev pub host : {D : Type 0} → Client D → (D → ℕ) → (D → ArrayClient) → Host D
host client place part = record { client = client; place = place; part = part }

module _ {D : Type 0} (h : Host D) (origin : Origin D) where
  -- where the words of the domain's client begin, and the array's
  abbrev pub floor_word : ℕ
  floor_word = base_of origin

  abbrev pub base_word : ℕ
  base_word = base_of origin + h.place origin.config.client

  -- how the domain began, as the array sees it
  abbrev pub inner : Origin ArrayClient
  inner = inner_origin h.part origin
