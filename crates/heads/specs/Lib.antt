pub mod Order
pub mod OrderLaws
pub mod HeadLaws
pub mod ScanLaws
pub mod RoomLaws
