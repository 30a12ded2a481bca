-- Where a table stands: in a domain whose client is the table's own, or holds it.
use Rattle.std.specs.Prelude.{ℕ, ◌+◌}
use Rattle.ck_epoch.specs.State.{Origin, base_of}
use Rattle.ck_epoch.specs.Client.{Client}
use Rattle.ck_epoch.specs.Within.{inner_origin}
use Rattle.ck_htlaw.specs.declared.client.HtClient.{HtClient}
use Rattle.ck_htlaw.specs.Table.{Layout}
use Rattle.ck_htlaw.specs.Client.{layout_of}

-- the domain's client, the place of the table's first word among the client's, and the table's own client
pub record Host (D : Type 0) : Type 1 where
  pub client : Client D
  pub place : D → ℕ
  pub part : D → HtClient

-- such a record, as contracts give it
abbrev pub host : {D : Type 0} → Client D → (D → ℕ) → (D → HtClient) → Host D
host client place part = record { client = client; place = place; part = part }

module _ {D : Type 0} (h : Host D) (origin : Origin D) where
  -- the table's first word
  abbrev pub first : ℕ
  first = base_of origin + h.place origin.config.client

  -- how the domain began, as the table sees it
  abbrev pub inner : Origin HtClient
  inner = inner_origin h.part origin

  -- where the table's words lie
  abbrev pub lies : Layout
  lies = layout_of first inner
