pub mod StartLaws
pub mod RefLaws
pub mod RoomLaws
pub mod PlaceLaws
pub mod CallLaws
pub mod BackLaws
pub mod WorkLaws
