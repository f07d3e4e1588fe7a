-- The format of a notification's body.
use Rattle.std.specs.Prelude.{◌≡◌, refl}
use Rattle.wire.specs.Format.{Format}
use Rattle.wire.specs.Forms.{pair_format, via, spelled}
use Rattle.journal_values.specs.Encoding.{notification}
use Rattle.journal_values.specs.Parts.{id_format, result_format}
use Rattle.journal_values.specs.declared.notification.Notification.{Notification}

-- ---- notification

-- a notification as (id, result)
abbrev pub notification_by_parts : Format Notification
notification_by_parts =
    via (λ m. (m.id, m.result)) (λ p. record { id = p.0; result = p.1 }) (λ _. refl) (λ _. refl)
    (pair_format id_format result_format)

pub notification_same : (m : Notification) → notification m ≡ (notification_by_parts).spelling m
unfolding notification
notification_same m = refl

-- the format of a notification's body: id (a completion, a signal or a signal's name), and one of
-- five results
abbrev pub notification_format : Format Notification
notification_format = spelled notification notification_by_parts notification_same
