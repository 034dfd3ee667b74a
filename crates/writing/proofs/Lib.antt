-- What writing digit by digit and field by field leaves in a room, signs, and that one outcome is allowed.
pub mod Fields
pub mod Signs
pub mod OneRefusal
